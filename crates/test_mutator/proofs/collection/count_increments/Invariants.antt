use Rattle.std.proofs.Common.{ℕ, Bool, ◌≡◌, ◌-◌, ◌^◌, min}
use Rattle.gc_heap.specs.Collection.{Start, IsPartOf, stage}
use Rattle.test_mutator.proofs.collection.count_increments.Given as goal

abbrev pub invariant-increments : goal.invariant-increments
invariant-increments g l = record {
  goes : (s : Start) (c : Bool) → g.H.GcHeap.under_way s 0 c (stage l.fn.heap l.fn.state l.fn.roots.roots l.fn.trace.types.now.declarations l.fn.trace.host_data_table.now.entries)
      → (n : ℕ) × ((d : Bool) × (g.H.GcHeap.under_way s n d (stage l.heap l.state l.roots.roots l.trace.types.now.declarations l.trace.host_data_table.now.entries) × (l.count ≡ min n (2 ^ 64 - 1))));
  values : IsPartOf l.trace.host_data_table.now.entries l.fn.trace.host_data_table.now.entries;
  hosts : l.trace.host_data_table.ghost_name ≡ l.fn.trace.host_data_table.ghost_name;
  types : l.trace.types ≡ l.fn.trace.types;
}

abbrev pub decreases-increments : goal.decreases-increments
decreases-increments g l = g.H.GcHeap.left l.heap l.state
