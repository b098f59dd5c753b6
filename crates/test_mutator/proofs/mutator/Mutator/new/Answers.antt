use Rattle.std.proofs.Common.{ap, length}
use Rattle.gc_view.specs.Heaps.{HeapView}
use Rattle.gc_heap.specs.Collection.{has_host}
use Rattle.gc_heap.proofs.ClientLemmas.{can_collect_empty}
use Rattle.test_mutator.proofs.mutator.Mutator.new.Goals as goal

pub invariant_of-result : goal.invariant_of-result
invariant_of-result g c = record {
  sound = c.attach.ensures.sound;
  can = rw (c.in-Ok-attach.ensures.ok, ap (λ (h : HeapView). h.scopes) c.requires.detached, c.new-in-Ok-attach.ensures) (can_collect_empty g.H.GcHeap.KIND c.args.types.declarations (length c.in-Ok.memory) (has_host c.new-in-Ok-attach-2.result.entries));
}
