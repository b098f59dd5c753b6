-- What fields and elements keep of the values that are put into them, and of which type they are.
use Rattle.std.specs.Prelude.{ℕ, ◌%◌, List, [], ◌∷◌, Option, Some, None, slice_get}
use Rattle.gc_types.specs.declared.value.FieldType.{FieldType}
use Rattle.gc_types.specs.declared.value.StorageType.{StorageType}
use Rattle.gc_types.specs.declared.value.StorageType.TheVariants as storage
use Rattle.gc_types.specs.Declarations.{Declaration, struct_fields_at, elem_at}
use Rattle.gc_model.specs.Values.{Value, numeric, i32, Object, struct, array, host, exception}
use Rattle.gc_model.specs.Sizes.{exn_fields_at}

-- what is kept of a value: the low bits of a number, as an unsigned one, where the field is narrower
abbrev pub stored : StorageType → Value → Value
stored storage.I8 (numeric i32 n) = numeric i32 (n % 256)
stored storage.I16 (numeric i32 n) = numeric i32 (n % 65536)
stored _ v = v

-- what fields keep of values, in order
abbrev pub stored_in : List FieldType → List Value → List Value
stored_in [] values = []
stored_in (field ∷ fields) [] = []
stored_in (field ∷ fields) (v ∷ values) = stored field.element_type v ∷ stored_in fields values

-- a byte as the value of an element
abbrev pub byte_value : ℕ → Value
byte_value n = numeric i32 n

abbrev pub listed_type : Option (List FieldType) → ℕ → Option FieldType
listed_type None index = None
listed_type (Some fields) index = slice_get fields index

-- The type of the value at an index of an object: that of a field, or of the elements whatever the index is.
abbrev pub value_type : {D : Type 0} → List Declaration → Object D → ℕ → Option FieldType
value_type types (struct ty values) index = listed_type (struct_fields_at types ty) index
value_type types (array ty values) index = elem_at types ty
value_type types (host value) index = None
value_type types (exception ty tag values) index = listed_type (exn_fields_at types ty) index
