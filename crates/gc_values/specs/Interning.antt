-- The function values and continuations of calls, and how they get ids. What is said of one of both holds of any values
-- that are told apart by some test.
use Rattle.std.specs.Prelude.{◌≡◌, ℕ, zero, suc, ◌+◌, ◌<◌, ◌≤◌, Bool, List, [], ◌∷◌, ◌++◌, length, Some, Result, Ok, Err}
use Rattle.std.specs.Ordering.{nat_cmp}
use Rattle.std.specs.FinMap.{FinMap, get}
use Rattle.gc_tables.specs.SideTables.{SideTable}
use Rattle.gc_tables.specs.declared.interner.InternFault.{InternFault}
use Rattle.gc_tables.specs.declared.interner.InternFault.TheVariants as intern_fault
use Rattle.gc_model.specs.SideValues.{IdsBy, InternedIds, SideValues, max_entries, same_cont, same_function, with_each}
use Rattle.gc_values.specs.declared.interned.InternedValues.{InternedValues}
use Rattle.gc_values.specs.declared.request.Place.{Place}
use Rattle.gc_values.specs.declared.request.Place.TheVariants as place
use Rattle.gc_values.specs.declared.request.Contents.{Contents}
use Rattle.gc_values.specs.declared.request.Contents.TheVariants as contents
use Rattle.gc_values.specs.declared.root.RawValue.{RawValue}
use Rattle.gc_values.specs.declared.faults.PlaceFault.{PlaceFault}
use Rattle.gc_values.specs.declared.faults.PlaceFault.TheVariants as place_fault
use Rattle.gc_values.specs.declared.faults.WriteFault.{WriteFault}
use Rattle.gc_values.specs.declared.faults.WriteFault.TheVariants as write_fault

-- the ids of what is interned
abbrev pub ids_of : InternedValues → InternedIds
ids_of interned = record { funcs = interned.functions.entries; conts = interned.conts.entries }

-- The values of a request that are looked at: one for all elements of an array isn't where there are none.
abbrev pub request_values : Place → Contents → List RawValue
request_values request (contents.Each raws) = raws.now
request_values (place.Struct ty) (contents.Same r) = r.now ∷ []
request_values (place.Exn ty tag) (contents.Same r) = r.now ∷ []
request_values (place.Array ty zero) (contents.Same r) = []
request_values (place.Array ty (suc n)) (contents.Same r) = r.now ∷ []
request_values request (contents.Bytes bytes) = []

module _ {A : Type 0} (same : A → A → Bool) where
  -- with those of a list the values that stand under these ids would be more than may be, or would not
  abbrev pub PassesIds : FinMap nat_cmp A → List A → Type 0
  PassesIds ids xs = (known : List A) → IdsBy known ids → max_entries < length (with_each same xs known)

  abbrev pub HaveIdsLeft : FinMap nat_cmp A → List A → Type 0
  HaveIdsLeft ids xs = (known : List A) → IdsBy known ids → length (with_each same xs known) ≤ max_entries

  -- how many of these values stand under no id yet, each counted once
  abbrev pub CountsNew : FinMap nat_cmp A → List A → Result ℕ InternFault → Type 0
  CountsNew ids xs (Ok n) = (known : List A) → IdsBy known ids → length (with_each same xs known) ≡ length known + n
  CountsNew ids xs (Err intern_fault.Full) = PassesIds ids xs
  CountsNew ids xs (Err intern_fault.Memory) = Unit {0}

  -- The new ones among values, with those of a list that stand under no id and are none of them.
  abbrev pub AddsNew : FinMap nat_cmp A → FinMap nat_cmp A → FinMap nat_cmp A → List A → Result (Unit {0}) InternFault → Type 0
  AddsNew ids old new xs (Ok done) = (known fresh : List A) → IdsBy known ids → IdsBy fresh old
      → (more : List A) × ((with_each same xs (known ++ fresh) ≡ known ++ more) × IdsBy more new)
  AddsNew ids old new xs (Err intern_fault.Full) = (known fresh : List A) → IdsBy known ids → IdsBy fresh old
      → max_entries < length (with_each same xs (known ++ fresh))
  AddsNew ids old new xs (Err intern_fault.Memory) = Unit {0}

  -- the values of a list may be interned, and there are spare places for them
  pub record HasRoomFor (t : SideTable A) (xs known : List A) : Type 0 where
    pub few : length (with_each same xs known) ≤ max_entries
    pub room : length (with_each same xs known) ≤ length known + t.spare

  -- Room is made for the values of a list; the table has what it had.
  pub record MakesEntryRoom (old new : SideTable A) (xs : List A) : Type 0 where
    pub unchanged : new.entries ≡ old.entries
    pub has_room : (known : List A) → IdsBy known old.entries → HasRoomFor new xs known

  -- a table whose values are told has room for those of a list
  pub record CanIntern (t : SideTable A) (xs : List A) : Type 0 where
    pub known : List A
    pub held : IdsBy known t.entries
    pub has_room : HasRoomFor t xs known

  -- The values of a list have ids now; what had one has it still.
  pub record InternsEach (old new : FinMap nat_cmp A) (xs : List A) : Type 0 where
    pub held : (known : List A) → IdsBy known old → IdsBy (with_each same xs known) new
    pub keeps : (id : ℕ) (x : A) → get old id ≡ Some x → get new id ≡ Some x

  -- what was known and the spare places are no fewer than before, together
  abbrev pub KeepsEntryRoom : SideTable A → SideTable A → List A → Type 0
  KeepsEntryRoom old new xs = (known : List A) → IdsBy known old.entries → length known + old.spare ≤ length (with_each same xs known) + new.spare

-- How many spare places a table with so many entries wants for what was counted, or why it can't have them.
abbrev pub FindsPlaces : ℕ → Result ℕ InternFault → PlaceFault → Result ℕ PlaceFault → Type 0
FindsPlaces entries (Ok n) full (Ok places) = (places ≡ n) × (entries + n ≤ max_entries)
FindsPlaces entries (Ok n) full (Err why) = (why ≡ full) × (max_entries < entries + n)
FindsPlaces entries (Err intern_fault.Full) full answer = answer ≡ Err full
FindsPlaces entries (Err intern_fault.Memory) full answer = answer ≡ Err place_fault.Memory

-- both tables, for what is given

-- there is room
pub record MakesRooms (old new : InternedValues) (given : SideValues) : Type 0 where
  pub functions : MakesEntryRoom same_function old.functions new.functions given.funcs
  pub conts : MakesEntryRoom same_cont old.conts new.conts given.conts

abbrev pub FindsRoom : InternedValues → InternedValues → SideValues → Result (Unit {0}) PlaceFault → Type 0
FindsRoom old new given (Ok done) = MakesRooms old new given
FindsRoom old new given (Err place_fault.FuncTableFull) = (ids_of new ≡ ids_of old) × PassesIds same_function old.functions.entries given.funcs
FindsRoom old new given (Err place_fault.ContTableFull) = (ids_of new ≡ ids_of old)
    × (HaveIdsLeft same_function old.functions.entries given.funcs × PassesIds same_cont old.conts.entries given.conts)
FindsRoom old new given (Err place_fault.Memory) = ids_of new ≡ ids_of old
FindsRoom old new given (Err _) = ⊥

pub record CanInternAll (t : InternedValues) (given : SideValues) : Type 0 where
  pub functions : CanIntern same_function t.functions given.funcs
  pub conts : CanIntern same_cont t.conts given.conts

pub record InternsAll (old new : InternedIds) (given : SideValues) : Type 0 where
  pub functions : InternsEach same_function old.funcs new.funcs given.funcs
  pub conts : InternsEach same_cont old.conts new.conts given.conts

pub record KeepsRooms (old new : InternedValues) (given : SideValues) : Type 0 where
  pub functions : KeepsEntryRoom same_function old.functions new.functions given.funcs
  pub conts : KeepsEntryRoom same_cont old.conts new.conts given.conts

-- ids are left for what is given
pub record HaveAllIdsLeft (ids : InternedIds) (given : SideValues) : Type 0 where
  pub functions : HaveIdsLeft same_function ids.funcs given.funcs
  pub conts : HaveIdsLeft same_cont ids.conts given.conts

-- what interning one value that is given answers and leaves
abbrev pub InternsGiven : InternedIds → InternedIds → SideValues → Result (Unit {0}) WriteFault → Type 0
InternsGiven old new given (Ok done) = InternsAll old new given × HaveAllIdsLeft old given
InternsGiven old new given (Err write_fault.FuncTableFull) = (new ≡ old) × PassesIds same_function old.funcs given.funcs
InternsGiven old new given (Err write_fault.ContTableFull) = (new ≡ old) × PassesIds same_cont old.conts given.conts
InternsGiven old new given (Err write_fault.Memory) = new ≡ old
