-- What counted increments of a collection say of its steps.
use Rattle.std.specs.Prelude.{◌≡◌, ℕ, ◌+◌, Option, Some, None}
use Rattle.gc_types.specs.declared.kind.Layouts.{Layouts}
use Rattle.gc_heap.specs.Collection.{Start, IsStepCount}

-- how many steps the counted increments took of a collection that may be under way
abbrev pub ticks_of : {S : Type 0} → (S → ℕ) → Option S → ℕ
ticks_of ticks None = 0
ticks_of ticks (Some state) = ticks state

-- A collection is complete, all of whose increments were counted: those before took so many steps, and the
-- counter rose from old to new by the steps of the others.
pub record CountsSteps (layouts : Layouts) (s : Start) (before old new : ℕ) : Type 0 where
  pub total : ℕ
  pub count : IsStepCount layouts s total
  pub steps : before + new ≡ total + old
