-- Where the values of an object lie, by the shape of its type.
use Rattle.std.specs.Prelude.{ℕ, zero, suc, ◌+◌, ◌*◌, List, [], ◌∷◌, map}
use Rattle.gc_types.specs.declared.value.FieldType.{FieldType}
use Rattle.gc_types.specs.declared.value.StorageType.{StorageType}
use Rattle.gc_types.specs.declared.kind.Layouts.{Layouts}
use Rattle.gc_types.specs.Declarations.{Shape, struct_of, array_of, exn_of, func_of, constant_field}
use Rattle.gc_types.specs.Layouts.{storage_width, field_offset, fields_end, round_up, struct_base, exception_base, array_base}

-- a place for one value: the type that it is stored as, and its offset from the object's first byte
pub record StorageSlot : Type 0 where
  pub storage : StorageType
  pub offset : ℕ

-- fields stand in order, each at a multiple of its width; the first at p or behind it
abbrev pub field_slots : ℕ → List FieldType → List StorageSlot
field_slots p [] = []
field_slots p (field ∷ fields) =
    (record { storage = field.element_type; offset = field_offset p field })
    ∷ field_slots (field_offset p field + storage_width field.element_type) fields

-- so many elements follow each other from p on
abbrev pub element_slots : StorageType → ℕ → ℕ → List StorageSlot
element_slots ty zero p = []
element_slots ty (suc n) p = (record { storage = ty; offset = p }) ∷ element_slots ty n (p + storage_width ty)

-- where the elements of an array begin
abbrev pub elements_from : Layouts → FieldType → ℕ
elements_from layouts element = round_up (array_base layouts) (storage_width element.element_type)

-- The slots of an object of that shape; an array has so many elements. A function is no object.
abbrev pub shape_slots : Layouts → Shape → ℕ → List StorageSlot
shape_slots layouts (struct_of fields) n = field_slots (struct_base layouts) fields
shape_slots layouts (array_of element) n = element_slots element.element_type n (elements_from layouts element)
shape_slots layouts (exn_of params) n = field_slots (exception_base layouts) (map constant_field params)
shape_slots layouts (func_of params results) n = []

-- the bytes of a struct with these fields, of an exception with these, and of an array of so many elements
abbrev pub struct_bytes : Layouts → List FieldType → ℕ
struct_bytes layouts fields = fields_end (struct_base layouts) fields

abbrev pub exception_bytes : Layouts → List FieldType → ℕ
exception_bytes layouts fields = fields_end (exception_base layouts) fields

abbrev pub array_bytes : Layouts → FieldType → ℕ → ℕ
array_bytes layouts element n = elements_from layouts element + n * storage_width element.element_type

-- the bytes of an object of that shape, as its layout has them
abbrev pub shape_size : Layouts → Shape → ℕ → ℕ
shape_size layouts (struct_of fields) n = struct_bytes layouts fields
shape_size layouts (array_of element) n = array_bytes layouts element n
shape_size layouts (exn_of params) n = exception_bytes layouts (map constant_field params)
shape_size layouts (func_of params results) n = 0
