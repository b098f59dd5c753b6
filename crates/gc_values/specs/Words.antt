-- The words that handles name.
use Rattle.std.specs.Prelude.{◌≡◌, ◌≢◌, ℕ, ◌%◌, ◌^◌, ◌<◌, ◌==◌, List, [], ◌∷◌, length, Option, Some, None, Result, Ok, Err, slice_get, slice_index_or, if◌then◌else◌}
use Rattle.std.specs.List.{AllPairs, Contains}
use Rattle.gc_owner.specs.declared.entry.RootEntry.{RootEntry}
use Rattle.gc_owner.specs.declared.entry.OwnedEntry.{OwnedEntry}
use Rattle.gc_owner.specs.RootColumns.{RootsView, empty_entry}
use Rattle.gc_values.specs.declared.root.RootSlot.{RootSlot}
use Rattle.gc_values.specs.declared.root.RootSlot.TheVariants as slot
use Rattle.gc_values.specs.declared.root.RootFault.{RootFault}
use Rattle.gc_values.specs.declared.root.RootFault.TheVariants as fault

-- the word of an entry, where its generation is the handle's
abbrev pub entry_word : Option RootEntry → ℕ → Result ℕ RootFault
entry_word None generation = Err fault.Unrooted
entry_word (Some entry) generation = if entry.generation == generation then Ok entry.word else Err fault.Unrooted

-- the owned root of that number, where it is among these
abbrev pub owned_at : ℕ → List OwnedEntry → Option OwnedEntry
owned_at number [] = None
owned_at number (entry ∷ entries) = if entry.number == number then Some entry else owned_at number entries

-- its word, as long as it has handles
abbrev pub owned_word : Option OwnedEntry → Result ℕ RootFault
owned_word None = Err fault.Unrooted
owned_word (Some entry) = if entry.handles == 0 then Err fault.Unrooted else Ok entry.word

-- the id that handles of an owned root carry, by its number
abbrev pub owned_id : ℕ → ℕ
owned_id number = number % 2 ^ 32

-- the word of a scoped handle's slot and generation
abbrev pub slot_word : List RootEntry → RootSlot → ℕ → Result ℕ RootFault
slot_word entries (slot.Scoped index) generation = entry_word (slice_get entries index) generation
slot_word entries (slot.Owned id) generation = Err fault.Unrooted

-- the word of any handle's slot and generation, which of an owned root is its number
abbrev pub word_at : List RootEntry → List OwnedEntry → RootSlot → ℕ → Result ℕ RootFault
word_at entries owned (slot.Scoped index) generation = entry_word (slice_get entries index) generation
word_at entries owned (slot.Owned id) generation = if id == owned_id generation then owned_word (owned_at generation owned) else Err fault.Unrooted

-- the roots that handles name
pub record HandleRoots : Type 0 where
  pub scoped : List RootEntry
  pub owned : List OwnedEntry

-- those of an owner
abbrev pub handle_roots : RootsView → HandleRoots
handle_roots r = record { scoped = r.scoped; owned = r.owned }

-- the word of a handle's slot and generation among these
abbrev pub root_word_at : HandleRoots → RootSlot → ℕ → Result ℕ RootFault
root_word_at roots slot generation = word_at roots.scoped roots.owned slot generation

-- owned roots stand by rising number
abbrev pub AreOwnedRising : List OwnedEntry → Type 0
AreOwnedRising entries = AllPairs (λ (a b : OwnedEntry). a.number < b.number) entries

-- where the owned root of that number stands, or that there is none
abbrev pub FindsOwned : List OwnedEntry → ℕ → Option ℕ → Type 0
FindsOwned entries number (Some i) = (i < length entries) × ((slice_index_or entries i empty_entry).number ≡ number)
FindsOwned entries number None = (entry : OwnedEntry) → Contains entries entry → entry.number ≢ number
