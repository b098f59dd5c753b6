-- How many bytes an object takes, by the heap that holds it.
use Rattle.std.specs.Prelude.{ℕ, ◌+◌, length, map, slice_get, option_and_then, List, [], ◌∷◌, Option, None, Some}
use Rattle.gc_types.specs.declared.value.FieldType.{FieldType}
use Rattle.gc_types.specs.declared.kind.Layouts.{Layouts}
use Rattle.gc_types.specs.declared.kind.Layouts.TheVariants.{Null, Copying}
use Rattle.gc_types.specs.Declarations.{Declaration, Shape, struct_of, array_of, exn_of, func_of, struct_fields_at, elem_at, constant_field}
use Rattle.gc_types.specs.Layouts.{round_up}
use Rattle.gc_memory.specs.Offsets.{external_size}
use Rattle.gc_model.specs.Values.{Object, struct, array, host, exception}
use Rattle.gc_view.specs.Sizes.{alignment}
use Rattle.gc_view.specs.Slots.{struct_bytes, exception_bytes, array_bytes}
use Rattle.gc_model.specs.Table.{Table}

-- the bytes of a struct with these fields; 0 where there is no such type
abbrev pub fields_size : Layouts → Option (List FieldType) → ℕ
fields_size layouts None = 0
fields_size layouts (Some fields) = struct_bytes layouts fields

-- the bytes of an array of so many elements
abbrev pub elements_size : Layouts → Option FieldType → ℕ → ℕ
elements_size layouts None n = 0
elements_size layouts (Some element) n = array_bytes layouts element n

-- the fields where the type is an exception
abbrev pub shape_exn_fields : Shape → Option (List FieldType)
shape_exn_fields (struct_of fields) = None
shape_exn_fields (array_of elem) = None
shape_exn_fields (exn_of params) = Some (map constant_field params)
shape_exn_fields (func_of params results) = None

-- the fields of the exception type with that index
abbrev pub exn_fields_at : List Declaration → ℕ → Option (List FieldType)
exn_fields_at types ty = option_and_then (λ (d : Declaration). shape_exn_fields d.shape) (slice_get types ty)

-- the bytes of an exception with these fields
abbrev pub exception_size : Layouts → Option (List FieldType) → ℕ
exception_size layouts None = 0
exception_size layouts (Some fields) = exception_bytes layouts fields

-- The bytes of an object, by its type; 0 where there is no such type.
abbrev pub object_size : {D : Type 0} → Layouts → List Declaration → Object D → ℕ
object_size layouts types (struct ty values) = fields_size layouts (struct_fields_at types ty)
object_size layouts types (array ty values) = elements_size layouts (elem_at types ty) (length values)
object_size layouts types (host value) = external_size layouts
object_size layouts types (exception ty tag values) = exception_size layouts (exn_fields_at types ty)

-- the bytes of an object, to the next multiple of 16; 0 where there is none
abbrev pub block_bytes : {D : Type 0} → Layouts → List Declaration → Option (Object D) → ℕ
block_bytes layouts types None = 0
block_bytes layouts types (Some o) = round_up (object_size layouts types o) alignment

-- those of the object at a position
abbrev pub block_bytes_at : {D : Type 0} → Layouts → Table D → ℕ → ℕ
block_bytes_at layouts t p = block_bytes layouts t.types (slice_get t.objects p)

-- the bytes of an object as a copying heap takes them; 0 where there is none
abbrev pub rounded_size : {D : Type 0} → List Declaration → Option (Object D) → ℕ
rounded_size types None = 0
rounded_size types (Some o) = round_up (object_size Copying types o) alignment

-- where the null heap goes on after these objects, if it stood at n before them: each begins at the
-- next multiple of 16
abbrev pub next_after : {D : Type 0} → List Declaration → ℕ → List (Object D) → ℕ
next_after types n [] = n
next_after types n (o ∷ os) = next_after types (round_up n alignment + object_size Null types o) os

-- where the null heap goes on; it begins at 1
abbrev pub next_place : {D : Type 0} → Table D → ℕ
next_place t = next_after t.types 1 t.objects
