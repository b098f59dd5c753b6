-- How many increments a collection takes.
use Rattle.std.specs.Prelude.{◌≡◌, ℕ, ◌+◌, ◌-◌, ◌^◌, ◌/◌, min, Bool, if◌then◌else◌}
use Rattle.gc_types.specs.declared.kind.Layouts.{Layouts}
use Rattle.gc_types.specs.declared.kind.Layouts.TheVariants.{Null, Counting, Copying}
use Rattle.gc_heap.specs.Collection.{IsIncrements, objects_per_increment}
use Rattle.gc_owner.specs.Owners.{OwnerView, Trims, start_of}
use Rattle.gc_model.specs.Table.{Table}
use Rattle.gc_model.specs.Reach.{HasNumber, IsReached}

-- the increments of a collection whose roots reach so many objects
abbrev pub increments : Layouts → ℕ → ℕ
increments Null n = 1
increments Counting n = 3
increments Copying n = n / objects_per_increment + 3

-- none where no heap is made
abbrev pub increments_where : Bool → Layouts → ℕ → ℕ
increments_where made layouts n = if made then increments layouts n else 0

-- A collection of a table's heap takes so many increments.
pub record TakesIncrements {D : Type 0} (layouts : Layouts) (t : Table D) (n : ℕ) : Type 0 where
  pub reached : ℕ
  pub reaches : HasNumber (IsReached t) reached
  pub number : n ≡ increments_where t.made layouts reached

-- The increments of a collection of an owner, from the roots that a trim had left, were counted up to the greatest u64.
pub record CountsIncrements {D : Type 0} (layouts : Layouts) (old : OwnerView D) (count : ℕ) : Type 0 where
  pub trimmed : OwnerView D
  pub trims : Trims layouts old trimmed
  pub number : ℕ
  pub takes : IsIncrements layouts (start_of trimmed) number
  pub counted : count ≡ min number (2 ^ 64 - 1)
