use Rattle.std.proofs.Common.{refl, ap}
use Rattle.gc_heap.specs.Collection.{has_host}
use Rattle.gc_owner.specs.RootColumns.{RootsView, roots_of}
use Rattle.gc_owner.proofs.OwnerLemmas.{can_begin_new}
use Rattle.gc_owner.proofs.owner.HeapOwner.new.Goals as goal

pub invariant_of-result : goal.invariant_of-result
invariant_of-result g c = record {
  sound = c.requires.sound;
  can = can_begin_new g.H.GcHeap.KIND c.new.result.declarations (g.H.GcHeap.seen c.args.heap) c.in_ok-new.field-0 (has_host c.new-2.result.entries) c.requires.empty (ap roots_of c.in_ok-new.ensures);
  unlisted = ap (λ (r : RootsView). r.listed) c.in_ok-new.ensures;
  unused = λ none. refl;
  placed = λ on. ap (λ (r : RootsView). r.has_places) c.in_ok-new.ensures;
}
