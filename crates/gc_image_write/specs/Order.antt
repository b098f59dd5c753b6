-- The order in which objects can be made: each behind those that it must have from the start.
use Rattle.std.specs.Prelude.{◌≡◌, ℕ, ◌<◌, Bool, false, List, Option, Some, None, length, slice_get, if◌then◌else◌}
use Rattle.gc_types.specs.declared.value.FieldType.{FieldType}
use Rattle.gc_types.specs.Declarations.{Declaration}
use Rattle.gc_model.specs.Stored.{value_type}
use Rattle.gc_image.specs.declared.image.ImageValue.{ImageValue}
use Rattle.gc_image.specs.declared.image.ObjectLine.{ObjectLine}
use Rattle.gc_image.specs.Well.{as_object, is_early, line_values, number_named}

-- whether a value of a field must be there from the start
abbrev pub is_early_in : Option FieldType → Bool
is_early_in None = false
is_early_in (Some field) = is_early field

-- the number that a value names, where that must be there from the start
abbrev pub early_of : Bool → Option ImageValue → Option ℕ
early_of is None = None
early_of is (Some v) = if is then number_named v else None

abbrev pub early_in : List Declaration → Option ObjectLine → ℕ → Option ℕ
early_in types None index = None
early_in types (Some line) index = early_of (is_early_in (value_type types (as_object line) index)) (slice_get (line_values line) index)

-- the number of the object that an object must have from the start in its value of that index
abbrev pub early_named : List Declaration → List ObjectLine → ℕ → ℕ → Option ℕ
early_named types objects from index = early_in types (slice_get objects from) index

-- an object must have another from the start
abbrev pub Needs : (ℕ → ℕ → Option ℕ) → ℕ → ℕ → Type 0
Needs early from to = (index : ℕ) × (early from index ≡ Some to)

-- An order of so many objects, of which each names by index those that it must have from the start: each stands in it once, behind
-- those that it needs.
pub record IsOrder (early : ℕ → ℕ → Option ℕ) (count : ℕ) (order : List ℕ) : Type 0 where
  pub all : (x : ℕ) → x < count → (n : ℕ) × (slice_get order n ≡ Some x)
  pub only : (n x : ℕ) → slice_get order n ≡ Some x → x < count
  pub once : (n m x : ℕ) → slice_get order n ≡ Some x → slice_get order m ≡ Some x → n ≡ m
  pub behind : (n x y : ℕ) → slice_get order n ≡ Some x → Needs early x y → (m : ℕ) × ((m < n) × (slice_get order m ≡ Some y))

-- some objects each need another of them
pub record AreTangled (early : ℕ → ℕ → Option ℕ) : Type 0 where
  pub tangle : List ℕ
  pub some : 0 < length tangle
  pub each : (k x : ℕ) → slice_get tangle k ≡ Some x → (j : ℕ) × (y : ℕ) × ((slice_get tangle j ≡ Some y) × Needs early x y)

-- each object that a value of one of the objects names is one of them
abbrev pub AreClosed : List ObjectLine → Type 0
AreClosed objects =
    (from index named : ℕ) (line : ObjectLine) (v : ImageValue) → slice_get objects from ≡ Some line → slice_get (line_values line) index ≡ Some v
    → number_named v ≡ Some named → named < length objects

-- what a value names is among so many objects, and so what the values of a line name
abbrev pub NamesBelow : ℕ → ImageValue → Type 0
NamesBelow count v = (number : ℕ) → number_named v ≡ Some number → number < count

abbrev pub AreBelow : ℕ → List ImageValue → Type 0
AreBelow count values = (k : ℕ) (v : ImageValue) → slice_get values k ≡ Some v → NamesBelow count v
