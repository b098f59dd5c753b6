-- What making an owned root by its word answers and leaves.
use Rattle.std.specs.Prelude.{◌≡◌, ◌≢◌, ◌+◌, slice_index_or, Option, Some, None, ◌≤◌, ◌<◌, ◌-◌, ◌^◌, ◌==◌, ◌||◌, ℕ, nat_le, Bool, true, false, List, length, Result, Ok, Err}
use Rattle.std.specs.List.{Contains}
use Rattle.gc_types.specs.declared.kind.Layouts.{Layouts}
use Rattle.gc_owner.specs.declared.entry.OwnedEntry.{OwnedEntry}
use Rattle.gc_model.specs.Values.{Reference}
use Rattle.gc_model.specs.Table.{Table}
use Rattle.gc_model.specs.OwnedRoots.{own, owned_full}
use Rattle.gc_model.specs.Stores.{StoreView}
use Rattle.gc_model.specs.Holds.{Holds, Placing, IsWord}
use Rattle.gc_model.specs.Accounts.{Account, IsAccount, HoldsAccount}
use Rattle.gc_values.specs.declared.root.GcRootIndex.{GcRootIndex}
use Rattle.gc_values.specs.declared.root.RootFault.{RootFault}
use Rattle.gc_values.specs.declared.root.RootFault.TheVariants as fault
use Rattle.gc_owner.specs.RootColumns.{empty_entry}
use Rattle.gc_values.specs.declared.root.RootSlot.TheVariants as slot
use Rattle.gc_values.specs.Words.{owned_id}
use Rattle.gc_store.specs.Roots.{owned_handle}

-- the store holds the table under that placing, and has that account
abbrev pub HoldsThere : {D : Type 0} → Layouts → StoreView D → Table D → Placing → Account → Type 0
HoldsThere layouts s t place a = Holds layouts s t place × IsAccount layouts s place a

-- where the list of owned roots is full, each has handles
abbrev pub IsTrimmed : {D : Type 0} → StoreView D → Type 0
IsTrimmed s = s.max_owned ≤ length s.owned → (entry : OwnedEntry) → Contains s.owned entry → 0 < entry.handles

-- no further owned root may be made
abbrev pub owned_is_full : {D : Type 0} → StoreView D → Bool
owned_is_full s = nat_le s.max_owned (length s.owned) || (s.owns == 2 ^ 64 - 1)

-- an owned root was added for what has that word
abbrev pub AddsOwned : {D : Type 0} → Layouts → StoreView D → ℕ → StoreView D → Type 0
AddsOwned {D} layouts old word new =
    (t : Table D) (place : Placing) (a : Account) (r : Reference) → HoldsThere layouts old t place a → IsWord place r word
    → HoldsAccount layouts new (own r t) a

-- what making an owned root for a reference answers and leaves
abbrev pub OwnsWord : {D : Type 0} → Layouts → Table D → Account → Reference → Result GcRootIndex RootFault → StoreView D → Type 0
OwnsWord layouts t a r (Ok made) new = (owned_full t ≡ false) × ((made ≡ owned_handle new t.owns) × HoldsAccount layouts new (own r t) a)
OwnsWord layouts t a r (Err fault.WrongStore) new = ⊥
OwnsWord layouts t a r (Err fault.Unrooted) new = ⊥
OwnsWord layouts t a r (Err fault.RootsFull) new = (owned_full t ≡ true) × HoldsAccount layouts new t a
OwnsWord layouts t a r (Err fault.Memory) new = HoldsAccount layouts new t a

-- where the owned root of that number stands, if it has handles
abbrev pub FindsHeldNumber : List OwnedEntry → ℕ → Option ℕ → Type 0
FindsHeldNumber entries number (Some i) =
    (i < length entries) × (((slice_index_or entries i empty_entry).number ≡ number) × (0 < (slice_index_or entries i empty_entry).handles))
FindsHeldNumber entries number None = (entry : OwnedEntry) → Contains entries entry → 0 < entry.handles → entry.number ≢ number

-- where that stands that the handle names by its slot and its generation
abbrev pub FindsHeld : {D : Type 0} → StoreView D → GcRootIndex → Option ℕ → Type 0
FindsHeld s handle (Some i) = (handle.slot ≡ slot.Owned (owned_id handle.generation)) × FindsHeldNumber s.owned handle.generation (Some i)
FindsHeld s handle None = handle.slot ≡ slot.Owned (owned_id handle.generation) → FindsHeldNumber s.owned handle.generation None

-- one more handle, where there are fewer than may be
abbrev pub GivesMore : ℕ → Option ℕ → Type 0
GivesMore handles (Some more) = (more ≡ handles + 1) × (handles ≢ 2 ^ 32 - 1)
GivesMore handles None = handles ≡ 2 ^ 32 - 1
