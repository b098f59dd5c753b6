-- Tables in which each value stands once.
use Rattle.std.specs.Prelude.{◌≡◌, ◌↔◌, ◌⊎◌, ℕ, Bool, Option, Some, None}
use Rattle.std.specs.Ordering.{nat_cmp}
use Rattle.std.specs.FinMap as map
use Rattle.std.specs.HashMap as hash
use Rattle.gc_tables.specs.SideTables.{SideTable, value_at}

module _ {T : Type 0} where
  -- the value stands under some id
  abbrev pub IsInterned : SideTable T → T → Type 0
  IsInterned t value = (id : ℕ) × (value_at t id ≡ Some value)

  -- the value stands under that id, and under no other
  abbrev pub IsIdOf : SideTable T → T → ℕ → Type 0
  IsIdOf t value id = (other : ℕ) → (value_at t other ≡ Some value) ↔ (other ≡ id)

  -- one more entry, for a value that wasn't interned, under an id that named none
  pub record AddsEntry (old new : SideTable T) (value : T) (id : ℕ) : Type 0 where
    pub missing : ¬ IsInterned old value
    pub fresh : value_at old id ≡ None
    pub added : new.entries ≡ map.insert old.entries id value

  -- The value has that id afterwards, and no other does. Nothing changes where it was interned.
  pub record Interns (old new : SideTable T) (value : T) (id : ℕ) : Type 0 where
    pub is_id : IsIdOf new value id
    pub change : (IsInterned old value × (new.entries ≡ old.entries)) ⊎ AddsEntry old new value id

-- the index finds each value of the table under its id, and nothing else
abbrev pub IsIndex : {T S : Type 0} → (T → T → Bool) → map.FinMap nat_cmp T → hash.HashMap T ℕ S → Type 0
IsIndex {T} eq entries index = (value : T) (id : ℕ) → (hash.get eq index value ≡ Some id) ↔ (map.get entries id ≡ Some value)
