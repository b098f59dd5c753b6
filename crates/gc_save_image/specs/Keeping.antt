-- When lines have their values as fields and elements keep them.
use Rattle.std.specs.Prelude.{◌≡◌, ℕ, List, Option, None, Some, slice_get}
use Rattle.gc_types.specs.declared.value.FieldType.{FieldType}
use Rattle.gc_types.specs.Declarations.{Declaration}
use Rattle.gc_model.specs.Stored.{stored, value_type}
use Rattle.gc_image.specs.declared.image.ImageValue.{ImageValue}
use Rattle.gc_image.specs.declared.image.ObjectLine.{ObjectLine}
use Rattle.gc_image.specs.Well.{as_object, as_value, line_values}

-- a value is as a field keeps it, where there is one
abbrev pub IsKeptIn : Option FieldType → ImageValue → Type 0
IsKeptIn None v = Unit {0}
IsKeptIn (Some field) v = stored field.element_type (as_value v) ≡ as_value v

-- so each value of a line
abbrev pub IsLineKept : List Declaration → ObjectLine → Type 0
IsLineKept types line = (index : ℕ) (v : ImageValue) → slice_get (line_values line) index ≡ Some v → IsKeptIn (value_type types (as_object line) index) v

abbrev pub AreKept : List Declaration → List ObjectLine → Type 0
AreKept types objects = (number : ℕ) (line : ObjectLine) → slice_get objects number ≡ Some line → IsLineKept types line
