-- What the parts of the search are given.
use Rattle.std.specs.Prelude.{◌≡◌, ◌+◌, ℕ, List, Some, slice_get}
use Rattle.gc_types.specs.declared.kind.Layouts.{Layouts}
use Rattle.gc_model.specs.Values.{Value, Object}
use Rattle.gc_model.specs.Reach.{object_values}
use Rattle.gc_model.specs.Stores.{StoreView}
use Rattle.gc_paths.specs.Parts.{Parts}
use Rattle.gc_paths.specs.Progress.{Basis, Progress}
use Rattle.gc_paths.specs.Reports.{Told}

-- the entry of that number is told, with that object, whose walks go on with one more
pub record IsReading {D : Type 0} (b : Basis D) (told : List Told) (bound number : ℕ) (object : Object D) : Type 0 where
  pub one : Told
  pub there : slice_get told number ≡ Some one
  pub next : bound ≡ one.entry.length + 1
  pub object_is : slice_get b.table.objects one.position ≡ Some object

-- in some search, that entry is told
pub record CanTake (D : Type 0) (layouts : Layouts) (s : StoreView D) (r : Parts) (number : ℕ) : Type 0 where
  pub basis : Basis D
  pub told : List Told
  pub bound : ℕ
  pub count : ℕ
  pub progress : Progress layouts basis told bound count s r
  pub object : Object D
  pub reading : IsReading basis told bound number object

-- in some search, that entry is told, and its object has a value of that index
pub record CanTakeValue (D : Type 0) (layouts : Layouts) (s : StoreView D) (r : Parts) (number index : ℕ) : Type 0 where
  pub can : CanTake D layouts s r number
  pub value : Value
  pub value_at : slice_get (object_values can.object) index ≡ Some value

-- a search has begun
pub record IsSearchBegun (D : Type 0) (layouts : Layouts) (s : StoreView D) (r : Parts) : Type 0 where
  pub basis : Basis D
  pub told : List Told
  pub count : ℕ
  pub progress : Progress layouts basis told 0 count s r
