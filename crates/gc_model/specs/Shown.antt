-- What a store shows of its owner.
use Rattle.std.specs.Prelude.{◌≡◌, ◌⊎◌, ℕ, ◌-◌, Bool, true, false, List, [], ◌∷◌, take, drop}
use Rattle.gc_types.specs.declared.kind.Layouts.{Layouts}
use Rattle.gc_owner.specs.declared.entry.SlotEntry.{SlotEntry}
use Rattle.gc_owner.specs.Owners.{OwnerView}
use Rattle.gc_owner.specs.Growing.{OwnerState, CollectsState}
use Rattle.gc_model.specs.Stores.{StoreView}

-- the slots from a place on, up to the first of these
abbrev pub slots_up_to : List ℕ → ℕ → List SlotEntry → List SlotEntry
slots_up_to [] start slots = drop start slots
slots_up_to (next ∷ starts) start slots = take (next - start) (drop start slots)

-- The frames by the places where they begin, each with its slots.
abbrev pub frames_of : List ℕ → List SlotEntry → List (List SlotEntry)
frames_of [] slots = []
frames_of (start ∷ starts) slots = slots_up_to starts start slots ∷ frames_of starts slots

-- what is seen of a store whose owner is so
abbrev pub shown : {D : Type 0} → StoreView D → OwnerView D → StoreView D
shown s v = record s {
  types = v.types.declarations;
  heap = v.heap;
  hosts = v.hosts;
  scoped = v.roots.scoped;
  generation = v.roots.generation;
  frames = frames_of v.roots.frames v.roots.slots;
  globals = v.roots.globals;
  owned = v.roots.owned;
  owns = v.roots.owns;
  pending = v.roots.pending;
  last = v.last;
  spare = v.roots.spare;
}

-- a collection of the owner ran where one is due
abbrev pub DuesOwner : {D : Type 0} → Layouts → Bool → OwnerState D → OwnerState D → Type 0
DuesOwner layouts due s e = ((due ≡ true) × CollectsState layouts s e) ⊎ ((due ≡ false) × (e ≡ s))
