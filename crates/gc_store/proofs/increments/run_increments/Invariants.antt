use Rattle.std.proofs.Common.{◌≡◌, ◌-◌, ◌^◌, ℕ, Bool, true, min}
use Rattle.gc_heap.specs.Collection.{Start}
use Rattle.gc_owner.specs.Owners.{OwnerValue, IsOwnerUnderWay, heap_kind}
use Rattle.gc_owner.specs.Going.{left_of}
use Rattle.gc_store.proofs.increments.run_increments.Given as goal

abbrev pub invariant-increments : goal.invariant-increments
invariant-increments g l =
    (s : Start) (begun : OwnerValue g.row.H.Denot g.row.H-State.Denot g.row.D.Denot) → IsOwnerUnderWay (heap_kind g.H.GcHeap.KIND g.H.GcHeap.seen g.H.GcHeap.sound g.H.GcHeap.under_way) s 0 true begun l.fn.owner
    → (n : ℕ) × ((counted : Bool) × (IsOwnerUnderWay (heap_kind g.H.GcHeap.KIND g.H.GcHeap.seen g.H.GcHeap.sound g.H.GcHeap.under_way) s n counted begun l.owner × (l.count ≡ min n (2 ^ 64 - 1))))

abbrev pub decreases-increments : goal.decreases-increments
decreases-increments g l = left_of g.H.GcHeap.left l.owner.heap l.owner.state
