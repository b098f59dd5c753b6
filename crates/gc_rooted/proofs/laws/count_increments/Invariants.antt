use Rattle.std.proofs.Common.{◌≡◌, ◌-◌, ◌^◌, ℕ, true, false, min}
use Rattle.gc_owner.specs.Owners.{heap_kind}
use Rattle.gc_owner.specs.Going.{left_of}
use Rattle.gc_model.specs.Stores.{StoreView}
use Rattle.gc_store.specs.Collectings.{IsOpen}
use Rattle.gc_rooted.proofs.laws.count_increments.Given as goal

abbrev pub invariant-increments : goal.invariant-increments
invariant-increments g l = record {
  same_reference : l.collecting.home.ghost_name ≡ l.fn.collecting.home.ghost_name;
  begun : l.collecting.inside.begun ≡ true;
  goes : (old : StoreView g.row.D.Denot) → IsOpen (heap_kind g.H.GcHeap.KIND g.H.GcHeap.seen g.H.GcHeap.sound g.H.GcHeap.under_way) old 0 true l.fn.collecting.inside
      → (n : ℕ) × (IsOpen (heap_kind g.H.GcHeap.KIND g.H.GcHeap.seen g.H.GcHeap.sound g.H.GcHeap.under_way) old n false l.collecting.inside × (l.count ≡ min n (2 ^ 64 - 1)));
}

abbrev pub decreases-increments : goal.decreases-increments
decreases-increments g l = left_of g.H.GcHeap.left l.collecting.inside.owner.heap l.collecting.inside.owner.state
