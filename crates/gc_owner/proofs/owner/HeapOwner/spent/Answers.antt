use Rattle.std.proofs.Common.{refl, ap}
use Rattle.gc_view.specs.Heaps.{HeapView}
use Rattle.gc_heap.specs.Collection.{has_host}
use Rattle.gc_owner.specs.RootColumns.{RootsView, roots_of}
use Rattle.gc_owner.proofs.OwnerLemmas.{can_begin_new}
use Rattle.gc_owner.proofs.owner.HeapOwner.spent.Goals as goal

pub invariant_of-result : goal.invariant_of-result
invariant_of-result g c = record {
  sound = c.unattached.ensures.sound;
  can = can_begin_new g.H.GcHeap.KIND c.new.result.declarations (g.H.GcHeap.seen c.unattached.result) c.spent.result (has_host c.new-2.result.entries) c.unattached.ensures.seen (ap roots_of c.spent.ensures);
  unlisted = ap (λ (r : RootsView). r.listed) c.spent.ensures;
  unused = λ none. refl;
  placed = λ on. let off = ap (λ (h : HeapView). h.attached) c.unattached.ensures.seen in absurd (cc);
}
