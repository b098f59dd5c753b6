use Rattle.std.proofs.Common.{sym, subst}
use Rattle.gc_types.specs.declared.kind.Layouts.TheVariants.{Null}
use Rattle.gc_view.specs.Heaps.{HeapView}
use Rattle.gc_heap.specs.Heap.{Allocated}
use Rattle.gc_heap.specs.NullWalk.{placed}
use Rattle.gc_heap.specs.NullStates.{bump_view}
use Rattle.gc_heap.proofs.NullHeapLemmas.{seen_in}
use Rattle.gc_heap.proofs.null.NullHeap.allocate.Goals as goal

pub returns-clause-allocated : goal.returns-clause-allocated
returns-clause-allocated c = λ kind is_kind.
    let h = c.args.self.now in
    let new = c.allocate_in.new in
    subst (λ (v : HeapView). Allocated Null v (bump_view new.memory new.next new.objects h.scopes) (placed kind c.args.header.type_word c.args.word c.args.size) c.args.size c.allocate_in.result)
    (sym (seen_in h c.in-Some.memory c.in-Some.is)) (c.allocate_in.ensures.allocated h.scopes kind is_kind)
