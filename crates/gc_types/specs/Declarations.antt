-- The type table as a plain list of declarations.
use Rattle.std.specs.Prelude.{ℕ, Bool, false, true, List, [], ◌∷◌, ◌++◌, Option, Some, None, map, slice_get, option_map, option_and_then, unwrap_or}
use Rattle.gc_types.specs.declared.value.Mutability.TheVariants.{Const}
use Rattle.gc_types.specs.declared.value.StorageType.TheVariants as storage
use Rattle.gc_types.specs.declared.value.ValType.{ValType}
use Rattle.gc_types.specs.declared.value.FieldType.{FieldType}
use Rattle.gc_types.specs.declared.kind.TypeKind.{TypeKind}
use Rattle.gc_types.specs.declared.kind.TypeKind.TheVariants as kinds

-- what a declaration lists: the fields of a struct, the element of an array, the parameters of an
-- exception, the parameters and results of a function
pub data Shape : Type 0 where
  struct_of : List FieldType → Shape
  array_of : FieldType → Shape
  exn_of : List ValType → Shape
  func_of : List ValType → List ValType → Shape

-- one declared type
pub record Declaration : Type 0 where
  pub shape : Shape
  pub supertype : Option ℕ
  pub is_final : Bool

-- a table of types: its id (an engine and a number of that engine) and its declarations in order
pub record TypeTable : Type 0 where
  pub engine : ℕ
  pub number : ℕ
  pub declarations : List Declaration

-- an exception's field of that type, which is constant
abbrev pub constant_field : ValType → FieldType
constant_field ty = record { mutability = Const; element_type = storage.ValType ty }

-- the kind of a type
abbrev pub shape_kind : Shape → TypeKind
shape_kind (struct_of fields) = kinds.Struct
shape_kind (array_of elem) = kinds.Array
shape_kind (exn_of params) = kinds.Exn
shape_kind (func_of params results) = kinds.Func

-- the fields of a struct or an exception; other types have none
abbrev pub shape_fields : Shape → Option (List FieldType)
shape_fields (struct_of fields) = Some fields
shape_fields (array_of elem) = None
shape_fields (exn_of params) = Some (map constant_field params)
shape_fields (func_of params results) = None

abbrev pub declaration_fields : Option Declaration → Option (List FieldType)
declaration_fields None = None
declaration_fields (Some d) = shape_fields d.shape

-- the fields of the type with that index
abbrev pub fields_at : List Declaration → ℕ → Option (List FieldType)
fields_at types ty = declaration_fields (slice_get types ty)

-- the fields where the type is a struct
abbrev pub shape_struct_fields : Shape → Option (List FieldType)
shape_struct_fields (struct_of fields) = Some fields
shape_struct_fields (array_of elem) = None
shape_struct_fields (exn_of params) = None
shape_struct_fields (func_of params results) = None

abbrev pub declaration_struct_fields : Option Declaration → Option (List FieldType)
declaration_struct_fields None = None
declaration_struct_fields (Some d) = shape_struct_fields d.shape

-- the fields of the struct type with that index
abbrev pub struct_fields_at : List Declaration → ℕ → Option (List FieldType)
struct_fields_at types ty = declaration_struct_fields (slice_get types ty)

-- the element of an array; other types have none
abbrev pub shape_elem : Shape → Option FieldType
shape_elem (struct_of fields) = None
shape_elem (array_of elem) = Some elem
shape_elem (exn_of params) = None
shape_elem (func_of params results) = None

abbrev pub declaration_elem : Option Declaration → Option FieldType
declaration_elem None = None
declaration_elem (Some d) = shape_elem d.shape

-- the element of the array type with that index
abbrev pub elem_at : List Declaration → ℕ → Option FieldType
elem_at types ty = declaration_elem (slice_get types ty)

-- what the type with that index lists
abbrev pub shape_at : List Declaration → ℕ → Option Shape
shape_at types ty = option_map (λ (d : Declaration). d.shape) (slice_get types ty)

-- the kind of the type with that index
abbrev pub kind_at : List Declaration → ℕ → Option TypeKind
kind_at types ty = option_map (λ (d : Declaration). shape_kind d.shape) (slice_get types ty)

-- the supertype that the type with that index was declared with
abbrev pub supertype_at : List Declaration → ℕ → Option ℕ
supertype_at types ty = option_and_then (λ (d : Declaration). d.supertype) (slice_get types ty)

-- whether the type with that index is declared and final
abbrev pub is_final_at : List Declaration → ℕ → Bool
is_final_at types ty = unwrap_or (option_map (λ (d : Declaration). d.is_final) (slice_get types ty)) false

-- a struct, array, function or exception type as it is declared; no type can extend an exception,
-- which itself extends none
abbrev pub struct_type : List FieldType → Option ℕ → Bool → Declaration
struct_type fields supertype is_final = record { shape = struct_of fields; supertype = supertype; is_final = is_final }

abbrev pub array_type : FieldType → Option ℕ → Bool → Declaration
array_type elem supertype is_final = record { shape = array_of elem; supertype = supertype; is_final = is_final }

abbrev pub func_type : List ValType → List ValType → Option ℕ → Bool → Declaration
func_type params results supertype is_final =
    record { shape = func_of params results; supertype = supertype; is_final = is_final }

abbrev pub exn_type : List ValType → Declaration
exn_type params = record { shape = exn_of params; supertype = None; is_final = true }

-- a type may have this many fields, parameters or results
abbrev pub max_fields : ℕ
max_fields = 10000

-- a table may have this many types
abbrev pub max_types : ℕ
max_types = 4294967295

-- the table with one more declaration
abbrev pub with_declaration : Declaration → TypeTable → TypeTable
with_declaration d table = record table { declarations = table.declarations ++ d ∷ [] }

-- what a type value tells: its table's id and its index
pub record TypeName : Type 0 where
  pub engine : ℕ
  pub number : ℕ
  pub index : ℕ
