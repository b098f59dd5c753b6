-- The value of an external object, which is freed with it.
use Rattle.std.specs.Prelude.{ℕ, ◌≡◌, ◌+◌, ◌-◌, ◌<◌, ◌≤◌, None}
use Rattle.std.specs.Ordering.{nat_cmp}
use Rattle.std.specs.FinMap as finite
use Rattle.gc_tables.specs.SideTables.{max_entries}
use Rattle.gc_heap.specs.Collection.{IsPartOf}

-- a number that stands for a host value: its id plus 1
abbrev pub IsHostWord : ℕ → Type 0
IsHostWord w = (0 < w) × (w ≤ max_entries)

-- The value whose id that number stands for is gone, and no other.
pub record FreesHost (D : Type 0) (old new : finite.FinMap nat_cmp D) (raw : ℕ) : Type 0 where
  pub lost : IsHostWord raw → finite.get new (raw - 1) ≡ None
  pub others : (id : ℕ) → (raw ≡ id + 1 → ⊥) → finite.get new id ≡ finite.get old id
  pub part : IsPartOf new old
