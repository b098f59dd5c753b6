use Rattle.std.proofs.Common.{sym, ap, ◌∙◌}
use Rattle.gc_view.specs.Heaps.{HeapView, detached_in}
use Rattle.gc_copying.specs.States.{copying_seen_of}
use Rattle.gc_copying.proofs.BackingLemmas.{held_lies, host_number, not_attached, nothing_counted}
use Rattle.gc_copying.proofs.heap.CopyingHeapGcHeap.memory.Goals as goal

pub returns-in-Attached-clause-attached : goal.returns-in-Attached-clause-attached
returns-in-Attached-clause-attached c = ap (λ b. (copying_seen_of c.args.self.now.scopes b).attached) c.in-Attached.is

pub returns-in-Attached-clause-lent : goal.returns-in-Attached-clause-lent
returns-in-Attached-clause-lent c = λ sound.
    let h = c.args.self.now in
    record {
      size = sym (ap (λ b. (copying_seen_of h.scopes b).capacity) c.in-Attached.is);
      objects = λ place object held. held_lies h c.in-Attached.space place object c.in-Attached.is sound held;
      hosts = λ place object held kind. host_number h c.in-Attached.space place object c.in-Attached.is sound held kind;
      counts = λ place n counted. absurd (nothing_counted h.scopes h.backing place n counted);
    }

pub returns-in_default-clause-attached : goal.returns-in_default-clause-attached
returns-in_default-clause-attached c = ap (λ (v : HeapView). v.attached) (not_attached c.args.self.now.scopes c.args.self.now.backing c.in_default.not-Attached)

pub returns-in_default-clause-lent : goal.returns-in_default-clause-lent
returns-in_default-clause-lent c = λ sound.
    let seen = not_attached c.args.self.now.scopes c.args.self.now.backing c.in_default.not-Attached in
    seen ∙ ap detached_in (sym (ap (λ (v : HeapView). v.scopes) seen))
