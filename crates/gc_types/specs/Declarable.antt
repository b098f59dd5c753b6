-- Which types may be declared.
use Rattle.std.specs.Prelude.{ℕ, ◌≡◌, ◌≤◌, ◌<◌, Bool, true, false, List, [], ◌∷◌, ◌++◌, Option, Some, None, All, length, take, slice_get}
use Rattle.std.specs.List.{AllZip}
use Rattle.gc_types.specs.declared.value.HeapType.{HeapType}
use Rattle.gc_types.specs.declared.value.HeapType.TheVariants as heap
use Rattle.gc_types.specs.declared.value.ValType.{ValType}
use Rattle.gc_types.specs.declared.value.ValType.TheVariants as val
use Rattle.gc_types.specs.declared.value.StorageType.{StorageType}
use Rattle.gc_types.specs.declared.value.StorageType.TheVariants as storage
use Rattle.gc_types.specs.declared.value.FieldType.{FieldType}
use Rattle.gc_types.specs.declared.kind.TypeKind.TheVariants as kinds
use Rattle.gc_types.specs.Declarations.{Shape, struct_of, array_of, exn_of, func_of, Declaration, kind_at, max_fields, max_types}
use Rattle.gc_types.specs.Subtyping.{supertypes_of, MatchesVal, MatchesField}

-- An index is known where it names a type of the kind that its variant tells; a type without an index always is.
abbrev pub IsKnownHeap : List Declaration → HeapType → Type 0
IsKnownHeap types (heap.ConcreteStruct ty) = kind_at types ty ≡ Some kinds.Struct
IsKnownHeap types (heap.ConcreteArray ty) = kind_at types ty ≡ Some kinds.Array
IsKnownHeap types (heap.ConcreteFunc ty) = kind_at types ty ≡ Some kinds.Func
IsKnownHeap types (heap.ConcreteExn ty) = kind_at types ty ≡ Some kinds.Exn
IsKnownHeap types heap.Any = Unit {0}
IsKnownHeap types heap.Eq = Unit {0}
IsKnownHeap types heap.I31 = Unit {0}
IsKnownHeap types heap.Struct = Unit {0}
IsKnownHeap types heap.Array = Unit {0}
IsKnownHeap types heap.None = Unit {0}
IsKnownHeap types heap.Extern = Unit {0}
IsKnownHeap types heap.NoExtern = Unit {0}
IsKnownHeap types heap.Func = Unit {0}
IsKnownHeap types heap.NoFunc = Unit {0}
IsKnownHeap types heap.Exn = Unit {0}
IsKnownHeap types heap.NoExn = Unit {0}
IsKnownHeap types heap.Cont = Unit {0}
IsKnownHeap types heap.NoCont = Unit {0}

abbrev pub IsKnownVal : List Declaration → ValType → Type 0
IsKnownVal types (val.Ref ty) = IsKnownHeap types ty.heap_type
IsKnownVal types val.I32 = Unit {0}
IsKnownVal types val.I64 = Unit {0}
IsKnownVal types val.F32 = Unit {0}
IsKnownVal types val.F64 = Unit {0}
IsKnownVal types val.V128 = Unit {0}

abbrev pub IsKnownStorage : List Declaration → StorageType → Type 0
IsKnownStorage types (storage.ValType ty) = IsKnownVal types ty
IsKnownStorage types storage.I8 = Unit {0}
IsKnownStorage types storage.I16 = Unit {0}

abbrev pub IsKnownField : List Declaration → FieldType → Type 0
IsKnownField types field = IsKnownStorage types field.element_type

-- each index that the type's fields, element, parameters or results name is known
abbrev pub NamesKnown : List Declaration → Shape → Type 0
NamesKnown types (struct_of fields) = All (IsKnownField types) fields
NamesKnown types (array_of elem) = IsKnownField types elem
NamesKnown types (exn_of params) = All (IsKnownVal types) params
NamesKnown types (func_of params results) = All (IsKnownVal types) params × All (IsKnownVal types) results

-- not too many fields, parameters or results
abbrev pub HasFewFields : Shape → Type 0
HasFewFields (struct_of fields) = length fields ≤ max_fields
HasFewFields (array_of elem) = Unit {0}
HasFewFields (exn_of params) = length params ≤ max_fields
HasFewFields (func_of params results) = (length params ≤ max_fields) × (length results ≤ max_fields)

-- The first type matches the second as its supertype. A struct may have further fields. Parameters
-- match the other way round. An exception has no supertype.
abbrev pub MatchesShape : List (Option ℕ) → Shape → Shape → Type 0
MatchesShape supers (struct_of fields) (struct_of others) =
    AllZip (MatchesField supers) (take (length others) fields) others
MatchesShape supers (array_of elem) (array_of other) = MatchesField supers elem other
MatchesShape supers (func_of params results) (func_of others answers) =
    AllZip (MatchesVal supers) others params × AllZip (MatchesVal supers) results answers
MatchesShape supers (struct_of fields) (array_of other) = ⊥
MatchesShape supers (struct_of fields) (exn_of others) = ⊥
MatchesShape supers (struct_of fields) (func_of others answers) = ⊥
MatchesShape supers (array_of elem) (struct_of others) = ⊥
MatchesShape supers (array_of elem) (exn_of others) = ⊥
MatchesShape supers (array_of elem) (func_of others answers) = ⊥
MatchesShape supers (exn_of params) other = ⊥
MatchesShape supers (func_of params results) (struct_of others) = ⊥
MatchesShape supers (func_of params results) (array_of other) = ⊥
MatchesShape supers (func_of params results) (exn_of others) = ⊥

-- The type may extend the one with that index: an earlier type, which is not final, and which it
-- matches. While it is checked, it counts as a subtype of that type.
pub record Extends (types : List Declaration) (d : Declaration) (ty : ℕ) : Type 0 where
  pub supertype : Declaration
  pub earlier : slice_get types ty ≡ Some supertype
  pub not_final : supertype.is_final ≡ false
  pub matches : MatchesShape (supertypes_of (types ++ d ∷ [])) d.shape supertype.shape

abbrev pub ExtendsOf : List Declaration → Declaration → Option ℕ → Type 0
ExtendsOf types d None = Unit {0}
ExtendsOf types d (Some ty) = Extends types d ty

-- no type can extend an exception
abbrev pub ExnIsFinal : Shape → Bool → Type 0
ExnIsFinal (struct_of fields) is_final = Unit {0}
ExnIsFinal (array_of elem) is_final = Unit {0}
ExnIsFinal (exn_of params) is_final = is_final ≡ true
ExnIsFinal (func_of params results) is_final = Unit {0}

-- A type that may be declared next. It may name itself.
pub record Declarable (types : List Declaration) (d : Declaration) : Type 0 where
  pub few_fields : HasFewFields d.shape
  pub exn_is_final : ExnIsFinal d.shape d.is_final
  pub few_types : length types < max_types
  pub known : NamesKnown (types ++ d ∷ []) d.shape
  pub extends : ExtendsOf types d d.supertype

-- Each type of the list could be declared behind those before it.
pub record AreDeclared (types : List Declaration) : Type 0 where
  pub each : (ty : ℕ) (d : Declaration) → slice_get types ty ≡ Some d → Declarable (take ty types) d
