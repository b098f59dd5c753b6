use Rattle.std.proofs.Common.{◌≡◌, ℕ, Bool, true}
use Rattle.gc_heap.specs.Collection.{Start}
use Rattle.gc_owner.specs.Owners.{OwnerValue, IsOwnerUnderWay}
use Rattle.gc_owner.specs.Going.{left_of}
use Rattle.gc_owner.proofs.OwnerLemmas.{heap_kind}
use Rattle.gc_owner.proofs.owner.HeapOwner.finish.Given as goal

abbrev pub invariant-increments : goal.invariant-increments
invariant-increments g l = record {
  goes : (s : Start) (n : ℕ) (d : Bool) (begun : OwnerValue g.row.H.Denot g.row.H-State.Denot g.row.D.Denot) → IsOwnerUnderWay (heap_kind g.H.GcHeap.KIND g.H.GcHeap.seen g.H.GcHeap.sound g.H.GcHeap.under_way) s n d begun l.fn.self
      → (m : ℕ) × ((e : Bool) × IsOwnerUnderWay (heap_kind g.H.GcHeap.KIND g.H.GcHeap.seen g.H.GcHeap.sound g.H.GcHeap.under_way) s m e begun l.self);
  same : l.fn.self.seen.idle ≡ true → l.self ≡ l.fn.self;
}

abbrev pub decreases-increments : goal.decreases-increments
decreases-increments g l = left_of g.H.GcHeap.left l.self.heap l.self.state
