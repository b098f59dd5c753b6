-- When an image is well: as the objects of a table, its objects fit their types, and its globals reach them all.
use Rattle.std.specs.Prelude.{◌≡◌, ℕ, ◌+◌, ◌<◌, Bool, true, false, List, [], Option, Some, None, length, map, option_map, slice_get, not, ◌||◌}
use Rattle.std.specs.Int.{w32, w64}
use Rattle.gc_types.specs.declared.value.FieldType.{FieldType}
use Rattle.gc_types.specs.declared.value.Mutability.{Mutability}
use Rattle.gc_types.specs.declared.value.Mutability.TheVariants.{Const, Var}
use Rattle.gc_types.specs.declared.value.StorageType.{StorageType}
use Rattle.gc_types.specs.declared.value.StorageType.TheVariants as storage
use Rattle.gc_types.specs.declared.value.ValType.TheVariants as val
use Rattle.gc_types.specs.Declarations.{Declaration, elem_at, struct_fields_at}
use Rattle.gc_owner.specs.declared.entry.GcClass.TheVariants as class
use Rattle.gc_owner.specs.RootColumns.{global_count}
use Rattle.gc_view.specs.Reach.{Reachable}
use Rattle.gc_model.specs.Fits.{fits}
use Rattle.gc_model.specs.Sizes.{exn_fields_at}
use Rattle.gc_model.specs.Stored.{byte_value, stored, value_type}
use Rattle.gc_model.specs.Values.{Reference, null, small, at, Value, numeric, i32, i64, f32, f64, v128, reference, Object, struct, array, host, exception, number_bits}
use Rattle.gc_image.specs.declared.image.GlobalLine.{GlobalLine}
use Rattle.gc_image.specs.declared.image.ImageReference.{ImageReference}
use Rattle.gc_image.specs.declared.image.ImageReference.TheVariants as image_reference
use Rattle.gc_image.specs.declared.image.ImageValue.{ImageValue}
use Rattle.gc_image.specs.declared.image.ImageValue.TheVariants as value
use Rattle.gc_image.specs.declared.image.ObjectLine.{ObjectLine}
use Rattle.gc_image.specs.declared.image.ObjectLine.TheVariants as object
use Rattle.gc_image.specs.Declaring.{DeclareInTurn}
use Rattle.gc_image.specs.Parts.{ImageParts}
use Rattle.gc_image.specs.Text.{FitsImage, image_text}

-- what a reference of an image is in a table whose positions are the objects' numbers
abbrev pub as_reference : ImageReference → Reference
as_reference image_reference.Null = null
as_reference (image_reference.Small n) = small n
as_reference (image_reference.Object number) = at number

abbrev pub as_value : ImageValue → Value
as_value (value.I32 n) = numeric i32 (number_bits w32 n)
as_value (value.I64 n) = numeric i64 (number_bits w64 n)
as_value (value.F32 n) = numeric f32 n
as_value (value.F64 n) = numeric f64 n
as_value (value.V128 n) = numeric v128 n
as_value (value.Ref class r) = reference class (as_reference r)

-- the object that a line is
abbrev pub as_object : ObjectLine → Object ℕ
as_object (object.Struct ty values) = struct ty (map as_value values)
as_object (object.Array ty values) = array ty (map as_value values)
as_object (object.Bytes ty bytes) = array ty (map byte_value bytes)
as_object (object.Host number) = host number
as_object (object.Exn ty tag values) = exception ty tag (map as_value values)

-- the values that a line spells; bytes are numbers and no words of it
abbrev pub line_values : ObjectLine → List ImageValue
line_values (object.Struct ty values) = values
line_values (object.Array ty values) = values
line_values (object.Bytes ty bytes) = []
line_values (object.Host number) = []
line_values (object.Exn ty tag values) = values

-- there are elements, and they are 8 bits wide, or they aren't
abbrev pub IsPacked : Option FieldType → Bool → Type 0
IsPacked None packed = ⊥
IsPacked (Some elem) true = elem.element_type ≡ storage.I8
IsPacked (Some elem) false = ¬ (elem.element_type ≡ storage.I8)

-- The type of a line is of its kind, and there are as many values as fields. An array of 8-bit elements is spelled by its bytes, and
-- no other is.
abbrev pub HasShape : List Declaration → ObjectLine → Type 0
HasShape types (object.Struct ty values) = option_map length (struct_fields_at types ty) ≡ Some (length values)
HasShape types (object.Array ty values) = IsPacked (elem_at types ty) false
HasShape types (object.Bytes ty bytes) = IsPacked (elem_at types ty) true
HasShape types (object.Host number) = Unit {0}
HasShape types (object.Exn ty tag values) = option_map length (exn_fields_at types ty) ≡ Some (length values)

-- a reference that an object must have from the start: its field is constant or not nullable
abbrev pub is_immutable : Mutability → Bool
is_immutable Const = true
is_immutable Var = false

abbrev pub wants_object : StorageType → Bool
wants_object (storage.ValType (val.Ref ty)) = not ty.nullable
wants_object ty = false

abbrev pub is_early : FieldType → Bool
is_early field = is_immutable field.mutability || wants_object field.element_type

-- the number of the object that a value names
abbrev pub number_named : ImageValue → Option ℕ
number_named (value.Ref class (image_reference.Object number)) = Some number
number_named v = None

-- A value of an object's line fits its type and is as its field keeps it; what an early one names has a lower number. What fits is an
-- object of the image.
pub record IsWellValue (types : List Declaration) (objects : List (Object ℕ)) (number : ℕ) (line : ObjectLine) (index : ℕ) (v : ImageValue) : Type 0 where
  pub field : FieldType
  pub field_is : value_type types (as_object line) index ≡ Some field
  pub is_fit : fits types objects field.element_type (as_value v) ≡ true
  pub is_stored : stored field.element_type (as_value v) ≡ as_value v
  pub early : is_early field ≡ true → (named : ℕ) → number_named v ≡ Some named → named < number

abbrev pub AreWellValues : List Declaration → List (Object ℕ) → ℕ → ObjectLine → Type 0
AreWellValues types objects number line =
    (index : ℕ) (v : ImageValue) → slice_get (line_values line) index ≡ Some v → IsWellValue types objects number line index v

-- an object's line
pub record IsWellObject (types : List Declaration) (objects : List (Object ℕ)) (number : ℕ) (line : ObjectLine) : Type 0 where
  pub shape : HasShape types line
  pub values : AreWellValues types objects number line

-- the objects by their numbers
abbrev pub AreWellObjects : List Declaration → List ObjectLine → Type 0
AreWellObjects types objects = (number : ℕ) (line : ObjectLine) → slice_get objects number ≡ Some line → IsWellObject types (map as_object objects) number line

-- a global's line: there is such a global, and it holds a reference, which isn't null of class Any and names an object of the image
abbrev pub HoldsReference : ℕ → ImageValue → Type 0
HoldsReference count (value.Ref class.Any image_reference.Null) = ⊥
HoldsReference count (value.Ref class image_reference.Null) = Unit {0}
HoldsReference count (value.Ref class (image_reference.Small n)) = Unit {0}
HoldsReference count (value.Ref class (image_reference.Object number)) = number < count
HoldsReference count v = ⊥

abbrev pub IsWellGlobal : ℕ → GlobalLine → Type 0
IsWellGlobal count global = (global.index < global_count) × HoldsReference count global.value

abbrev pub AreWellGlobals : ℕ → List GlobalLine → Type 0
AreWellGlobals count globals = (i : ℕ) (global : GlobalLine) → slice_get globals i ≡ Some global → IsWellGlobal count global

-- each global has a greater index than the one before it
abbrev pub AreRising : List GlobalLine → Type 0
AreRising globals = (i : ℕ) (one next : GlobalLine) → slice_get globals i ≡ Some one → slice_get globals (i + 1) ≡ Some next → one.index < next.index

-- some global holds the object with that number
abbrev pub GlobalHolds : List GlobalLine → ℕ → Type 0
GlobalHolds globals number = (i : ℕ) × (global : GlobalLine) × ((slice_get globals i ≡ Some global) × (number_named global.value ≡ Some number))

-- the object with one number names that with another
abbrev pub NamesByNumber : List ObjectLine → ℕ → ℕ → Type 0
NamesByNumber objects from to =
    (line : ObjectLine) × (i : ℕ) × (v : ImageValue)
    × ((slice_get objects from ≡ Some line) × ((slice_get (line_values line) i ≡ Some v) × (number_named v ≡ Some to)))

-- the globals reach every object
abbrev pub GlobalsReachAll : List ObjectLine → List GlobalLine → Type 0
GlobalsReachAll objects globals = (number : ℕ) → number < length objects → Reachable (GlobalHolds globals) (NamesByNumber objects) number

-- An image is well.
pub record IsWellImage (image : ImageParts) : Type 0 where
  -- its types may be declared in turn
  pub types : List Declaration
  pub declared : DeclareInTurn [] image.types types
  -- its objects and its globals are well
  pub objects : AreWellObjects types image.objects
  pub globals : AreWellGlobals (length image.objects) image.globals
  pub rising : AreRising image.globals
  -- the globals reach every object
  pub reached : GlobalsReachAll image.objects image.globals

-- the bytes are the text of an image that is well
pub record IsWell (bytes : List ℕ) : Type 0 where
  pub image : ImageParts
  pub fits : FitsImage image
  pub spelled : bytes ≡ image_text image
  pub well : IsWellImage image
