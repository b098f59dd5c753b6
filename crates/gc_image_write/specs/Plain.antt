-- Types that an image can spell: none is a function type, and none has a field, an element or a parameter that holds functions or
-- continuations.
use Rattle.std.specs.Prelude.{◌≡◌, ℕ, List, Some, All, slice_get}
use Rattle.gc_types.specs.declared.value.FieldType.{FieldType}
use Rattle.gc_types.specs.declared.value.HeapType.{HeapType}
use Rattle.gc_types.specs.declared.value.HeapTopType.TheVariants as top
use Rattle.gc_types.specs.declared.value.StorageType.{StorageType}
use Rattle.gc_types.specs.declared.value.StorageType.TheVariants as storage
use Rattle.gc_types.specs.declared.value.ValType.{ValType}
use Rattle.gc_types.specs.declared.value.ValType.TheVariants as val
use Rattle.gc_types.specs.Declarations.{Declaration, Shape, array_of, exn_of, func_of, struct_of}
use Rattle.gc_types.specs.Values.{heap_top}

abbrev pub IsPlainHeap : HeapType → Type 0
IsPlainHeap ty = (¬ (heap_top ty ≡ top.Func)) × (¬ (heap_top ty ≡ top.Cont))

abbrev pub IsPlainVal : ValType → Type 0
IsPlainVal (val.Ref ty) = IsPlainHeap ty.heap_type
IsPlainVal val.I32 = Unit {0}
IsPlainVal val.I64 = Unit {0}
IsPlainVal val.F32 = Unit {0}
IsPlainVal val.F64 = Unit {0}
IsPlainVal val.V128 = Unit {0}

abbrev pub IsPlainStorage : StorageType → Type 0
IsPlainStorage storage.I8 = Unit {0}
IsPlainStorage storage.I16 = Unit {0}
IsPlainStorage (storage.ValType ty) = IsPlainVal ty

abbrev pub IsPlainField : FieldType → Type 0
IsPlainField field = IsPlainStorage field.element_type

abbrev pub IsPlainShape : Shape → Type 0
IsPlainShape (struct_of fields) = All IsPlainField fields
IsPlainShape (array_of elem) = IsPlainField elem
IsPlainShape (exn_of params) = All IsPlainVal params
IsPlainShape (func_of params results) = ⊥

abbrev pub IsPlainType : Declaration → Type 0
IsPlainType d = IsPlainShape d.shape

abbrev pub ArePlain : List Declaration → Type 0
ArePlain types = (n : ℕ) (d : Declaration) → slice_get types n ≡ Some d → IsPlainType d
