use Rattle.std.proofs.Common.{sym, ap, ◌∙◌}
use Rattle.gc_view.specs.Heaps.{HeapView, detached_in}
use Rattle.gc_heap.specs.NullStates.{view_of}
use Rattle.gc_heap.proofs.NullHeapLemmas.{seen_in, nothing_counted, null_host, null_lies}
use Rattle.gc_heap.proofs.null.NullHeapGcHeap.memory.Goals as goal

pub returns-in-Some-clause-attached : goal.returns-in-Some-clause-attached
returns-in-Some-clause-attached c = ap (λ (v : HeapView). v.attached) (seen_in c.args.self.now c.in-Some.memory c.in-Some.is)

pub returns-in-Some-clause-lent : goal.returns-in-Some-clause-lent
returns-in-Some-clause-lent c = λ sound.
    let h = c.args.self.now in
    let bytes = c.in-Some.memory in
    record {
      size = sym (ap (λ (v : HeapView). v.capacity) (seen_in h bytes c.in-Some.is));
      objects = λ place object held. null_lies h bytes place object sound c.in-Some.is held;
      hosts = λ place object held kind. let host = null_host h place object sound held kind in (host.from, host.to);
      counts = λ place n counted. absurd (nothing_counted h place n counted);
    }

pub returns-in-None-clause-attached : goal.returns-in-None-clause-attached
returns-in-None-clause-attached c =
    let h = c.args.self.now in
    ap (λ m. (view_of m h.next h.objects h.scopes).attached) c.in-None.is

pub returns-in-None-clause-lent : goal.returns-in-None-clause-lent
returns-in-None-clause-lent c = λ sound.
    let h = c.args.self.now in
    let seen = ap (λ m. view_of m h.next h.objects h.scopes) c.in-None.is in
    seen ∙ ap detached_in (sym (ap (λ (v : HeapView). v.scopes) seen))
