-- What a store ends as, whose values are read one by one.
use Rattle.std.specs.Prelude.{Result}
use Rattle.std.specs.Borrow.{Fml, RattleType, MutBor, RestsIfErr}
use Rattle.gc_heap.specs.declared.heap.GcHeap as heap
use Rattle.gc_model.specs.Stores.{StoreView}
use Rattle.gc_store.specs.contracts.store.Store as store
use Rattle.gc_objects.specs.declared.faults.AccessFault.{AccessFault}
use Rattle.gc_objects.specs.declared.values.Values.{Values}
use Rattle.gc_objects.specs.ValueRuns.{ValueRun, LeavesRoom}

-- the values that are left to an iterator
abbrev pub left_to : {H D S : Type 0} → Values H D S → ValueRun D
left_to values = record { store = values.store.now; root = values.root; next = values.next; len = values.len }

module _ (H D S : RattleType) (g : heap.Ghosts H.Denot S.Denot) where
  -- the store ends as the iterator leaves it, and where there is none, as it was but for room for roots
  abbrev pub rests_refused : MutBor (StoreView D.Denot) → Result (Values H.Denot D.Denot S.Denot) AccessFault → Fml
  rests_refused s r = RestsIfErr (store.the_row H D S g) s (λ values. values.store.ghost_name) r (λ last. LeavesRoom s.now last)
