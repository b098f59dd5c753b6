-- How a slab keeps its entries. No public clause cites this module.
use Rattle.std.specs.Prelude.{◌≡◌, ℕ, zero, suc, ◌+◌, ◌≤◌, List, [], ◌∷◌, length, map, Option, Some, None, slice_get}
use Rattle.std.specs.Ordering.{nat_cmp}
use Rattle.std.specs.FinMap as finite
use Rattle.gc_tables.specs.declared.slab.Entry.{Entry}
use Rattle.gc_tables.specs.declared.slab.Entry.TheVariants.{Free, Occupied}
use Rattle.gc_tables.specs.SideTables.{max_entries}

module _ {T : Type 0} where
  -- the value of a place, if it has one
  abbrev pub value_of : Entry T → Option T
  value_of (Free _) = None
  value_of (Occupied value) = Some value

  -- the values of these places, each under its number, where the first has that number
  abbrev pub numbered : ℕ → List (Option T) → List (ℕ × T)
  numbered first [] = []
  numbered first (None ∷ rest) = numbered (first + 1) rest
  numbered first (Some value ∷ rest) = (first, value) ∷ numbered (first + 1) rest

  -- the finite map of these places
  abbrev pub map_of : List (Option T) → finite.FinMap nat_cmp T
  map_of slots = finite.from_sorted (numbered 0 slots)

  abbrev pub entry_map : List (Entry T) → finite.FinMap nat_cmp T
  entry_map entries = map_of (map value_of entries)

  -- that many free places, each naming the next, begin here
  abbrev pub IsChain : List (Entry T) → ℕ → Option ℕ → Type 0
  IsChain entries zero first = first ≡ None
  IsChain entries (suc count) None = ⊥
  IsChain entries (suc count) (Some id) =
      (next : Option ℕ) × (slice_get entries id ≡ Some (Free next)) × IsChain entries count next

  -- the count is that of the values, and the chain has every free place
  pub record IsLinked (entries : List (Entry T)) (free : Option ℕ) (count : ℕ) : Type 0 where
    pub counted : finite.len (entry_map entries) ≡ count
    pub vacant : ℕ
    pub total : count + vacant ≡ length entries
    pub chain : IsChain entries vacant free
    pub bounded : length entries ≤ max_entries
