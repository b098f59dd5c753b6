-- A store that holds a table holds it after an owned root was made, or gained or lost a handle, and after a trim.
use Rattle.std.proofs.Common.{◌≡◌, ℕ, ◌+◌, ◌-◌, ◌<◌, [], ◌∷◌, ◌++◌, Contains, ◌∙◌, refl, arith}
use Rattle.std.specs.Prelude.{slice_set}
use Rattle.gc_types.specs.declared.kind.Layouts.{Layouts}
use Rattle.gc_view.specs.Heaps.{HeapView}
use Rattle.gc_owner.specs.declared.entry.OwnedEntry.{OwnedEntry}
use Rattle.gc_owner.specs.RootColumns as columns
use Rattle.gc_model.specs.Values.{Reference}
use Rattle.gc_model.specs.Table.{Table}
use Rattle.gc_model.specs.OwnedRoots.{own, add_handle, drop_handle}
use Rattle.gc_model.specs.Stores.{StoreView}
use Rattle.gc_model.specs.Holds.{Placing, IsWord, Holds}
use Rattle.gc_model.proofs.HoldsParts.{SameHeld, holds_same, owned_changed}
use Rattle.gc_model.proofs.OwnedRoots.{owned_added, owned_counted, owned_gained, owned_trimmed}

-- the store with one more owned root
abbrev pub with_owned : {D : Type 0} → HeapView → OwnedEntry → StoreView D → StoreView D
with_owned heap entry s = record s { heap = heap; owned = s.owned ++ entry ∷ []; owns = s.owns + 1 }

-- the store, where the owned root at that place has so many handles
abbrev pub with_handle_count : {D : Type 0} → ℕ → OwnedEntry → ℕ → StoreView D → StoreView D
with_handle_count index entry handles s = record s { owned = slice_set s.owned index (record entry { handles = handles }) }

-- the store without the owned roots that have no handles
abbrev pub trimmed : {D : Type 0} → HeapView → StoreView D → StoreView D
trimmed heap s = record s { heap = heap; owned = columns.with_handles s.owned }

module _ {D : Type 0} (layouts : Layouts) (s : StoreView D) (t : Table D) (place : Placing) (holds : Holds layouts s t place) where
  -- its number is how many were made
  pub holds_owned : (heap : HeapView) (entry : OwnedEntry) (r : Reference) → SameHeld s.heap heap → entry.number ≡ s.owns → entry.handles ≡ 1 → IsWord place r entry.word → 0 < entry.word → Holds layouts (with_owned heap entry s) (own r t) place
  holds_owned heap entry r same numbered one is positive =
      owned_changed (holds_same layouts s t place heap holds same)
      (owned_added place t.owns s.owns t.owned s.owned holds.owned entry r (numbered ∙ holds.owned.same_owns) one is positive)

  module _ (entry : OwnedEntry) (there : Contains s.owned entry) (some : 0 < entry.handles) where
    pub holds_handle_added : Holds layouts (with_handle_count there.0 entry (entry.handles + 1) s) (add_handle entry.number t) place
    holds_handle_added = owned_changed holds (owned_gained place t.owns s.owns t.owned s.owned holds.owned entry there some (entry.handles + 1) (λ n. n + 1) refl (λ n above. omega arith))

    pub holds_handle_dropped : Holds layouts (with_handle_count there.0 entry (entry.handles - 1) s) (drop_handle entry.number t) place
    holds_handle_dropped = owned_changed holds (owned_counted place t.owns s.owns t.owned s.owned holds.owned entry there some (entry.handles - 1) (λ n. n - 1) refl)

  -- a trim changes nothing of the table
  pub holds_trimmed : (heap : HeapView) → SameHeld s.heap heap → Holds layouts (trimmed heap s) t place
  holds_trimmed heap same = owned_changed (holds_same layouts s t place heap holds same) (owned_trimmed place t.owns s.owns t.owned s.owned holds.owned)
