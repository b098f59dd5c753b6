-- Where the fields of a type lie in an object.
use Rattle.std.specs.Prelude.{ℕ, ◌+◌, ◌-◌, ◌*◌, ◌/◌, Bool, true, false, List, [], ◌∷◌, Option, Some, None, map, filter, slice_get, option_map}
use Rattle.gc_types.specs.declared.value.FieldType.{FieldType}
use Rattle.gc_types.specs.declared.value.StorageType.{StorageType}
use Rattle.gc_types.specs.declared.value.StorageType.TheVariants as storage
use Rattle.gc_types.specs.declared.value.ValType.TheVariants as val
use Rattle.gc_types.specs.declared.value.ValType.{ValType}
use Rattle.gc_types.specs.declared.value.HeapType.{HeapType}
use Rattle.gc_types.specs.declared.value.HeapType.TheVariants as heap
use Rattle.gc_types.specs.declared.kind.Layouts.{Layouts}
use Rattle.gc_types.specs.declared.kind.Layouts.TheVariants.{Null, Counting, Copying}
use Rattle.gc_types.specs.declared.layout.FieldLayout.{FieldLayout}
use Rattle.gc_types.specs.declared.layout.GcStructLayout.{GcStructLayout}
use Rattle.gc_types.specs.declared.layout.GcArrayLayout.{GcArrayLayout}
use Rattle.gc_types.specs.declared.layout.TraceInfo.{TraceInfo}
use Rattle.gc_types.specs.declared.layout.TraceInfo.TheVariants as trace
use Rattle.gc_types.specs.Declarations.{Shape, struct_of, array_of, exn_of, func_of, Declaration, constant_field, elem_at}

-- the bytes that a value takes
abbrev pub value_width : ValType → ℕ
value_width val.I32 = 4
value_width val.I64 = 8
value_width val.F32 = 4
value_width val.F64 = 8
value_width val.V128 = 16
value_width (val.Ref ty) = 4

-- the bytes that a field or an element takes
abbrev pub storage_width : StorageType → ℕ
storage_width storage.I8 = 1
storage_width storage.I16 = 2
storage_width (storage.ValType ty) = value_width ty

-- functions and continuations are ids of side tables, so a field of theirs is no reference
abbrev pub is_gc_heap_type : HeapType → Bool
is_gc_heap_type heap.Func = false
is_gc_heap_type heap.NoFunc = false
is_gc_heap_type (heap.ConcreteFunc ty) = false
is_gc_heap_type heap.Cont = false
is_gc_heap_type heap.NoCont = false
is_gc_heap_type heap.Any = true
is_gc_heap_type heap.Eq = true
is_gc_heap_type heap.I31 = true
is_gc_heap_type heap.Struct = true
is_gc_heap_type heap.Array = true
is_gc_heap_type heap.None = true
is_gc_heap_type (heap.ConcreteStruct ty) = true
is_gc_heap_type (heap.ConcreteArray ty) = true
is_gc_heap_type heap.Extern = true
is_gc_heap_type heap.NoExtern = true
is_gc_heap_type heap.Exn = true
is_gc_heap_type heap.NoExn = true
is_gc_heap_type (heap.ConcreteExn ty) = true

abbrev pub is_gc_value : ValType → Bool
is_gc_value val.I32 = false
is_gc_value val.I64 = false
is_gc_value val.F32 = false
is_gc_value val.F64 = false
is_gc_value val.V128 = false
is_gc_value (val.Ref ty) = is_gc_heap_type ty.heap_type

-- whether a collection follows what such a field holds
abbrev pub is_gc_storage : StorageType → Bool
is_gc_storage storage.I8 = false
is_gc_storage storage.I16 = false
is_gc_storage (storage.ValType ty) = is_gc_value ty

-- the least multiple of w that is not below n
abbrev pub round_up : ℕ → ℕ → ℕ
round_up n w = (n + (w - 1)) / w * w

-- where a field lies whose object is in use up to p
abbrev pub field_offset : ℕ → FieldType → ℕ
field_offset p field = round_up p (storage_width field.element_type)

-- each field behind the one before it, at a multiple of its width; the first at p or behind it
abbrev pub field_layouts : ℕ → List FieldType → List FieldLayout
field_layouts p [] = []
field_layouts p (field ∷ fields) =
    record { offset = field_offset p field; is_gc_ref = is_gc_storage field.element_type }
    ∷ field_layouts (field_offset p field + storage_width field.element_type) fields

-- where the last field ends, or p where there is none
abbrev pub fields_end : ℕ → List FieldType → ℕ
fields_end p [] = p
fields_end p (field ∷ fields) = fields_end (field_offset p field + storage_width field.element_type) fields

-- the first offset of a struct that a field may take
abbrev pub struct_base : Layouts → ℕ
struct_base Null = 8
struct_base Counting = 28
struct_base Copying = 12

-- the first offset of an exception that a field may take
abbrev pub exception_base : Layouts → ℕ
exception_base Null = 16
exception_base Counting = 36
exception_base Copying = 20

-- where the elements of an array begin, before that is rounded up to their width
abbrev pub array_base : Layouts → ℕ
array_base Null = 12
array_base Counting = 32
array_base Copying = 16

-- the layout of a struct with these fields
abbrev pub struct_layout : Layouts → List FieldType → GcStructLayout
struct_layout layouts fields = record {
  size = fields_end (struct_base layouts) fields;
  is_exception = false;
  fields = field_layouts (struct_base layouts) fields;
}

-- the layout of an exception with these parameters, each of which is a field
abbrev pub exn_layout : Layouts → List ValType → GcStructLayout
exn_layout layouts params = record {
  size = fields_end (exception_base layouts) (map constant_field params);
  is_exception = true;
  fields = field_layouts (exception_base layouts) (map constant_field params);
}

-- the layout of an array of these elements
abbrev pub array_layout : Layouts → FieldType → GcArrayLayout
array_layout layouts elem = record {
  base_size = round_up (array_base layouts) (storage_width elem.element_type);
  elem_size = storage_width elem.element_type;
  elems_are_gc_refs = is_gc_storage elem.element_type;
}

-- the offsets of the references, in order
abbrev pub ref_offsets : List FieldLayout → List ℕ
ref_offsets places = map (λ (p : FieldLayout). p.offset) (filter (λ (p : FieldLayout). p.is_gc_ref) places)

-- the layout of a struct or an exception; other types have none
abbrev pub shape_layout : Layouts → Shape → Option GcStructLayout
shape_layout layouts (struct_of fields) = Some (struct_layout layouts fields)
shape_layout layouts (array_of elem) = None
shape_layout layouts (exn_of params) = Some (exn_layout layouts params)
shape_layout layouts (func_of params results) = None

abbrev pub declaration_layout : Layouts → Option Declaration → Option GcStructLayout
declaration_layout layouts None = None
declaration_layout layouts (Some d) = shape_layout layouts d.shape

-- the layout of the struct or exception type with that index
abbrev pub layout_at : Layouts → List Declaration → ℕ → Option GcStructLayout
layout_at layouts types ty = declaration_layout layouts (slice_get types ty)

-- the layout of the array type with that index
abbrev pub array_layout_at : Layouts → List Declaration → ℕ → Option GcArrayLayout
array_layout_at layouts types ty = option_map (array_layout layouts) (elem_at types ty)

-- which places of an object hold references; functions are no objects
abbrev pub shape_trace : Layouts → Shape → Option TraceInfo
shape_trace layouts (struct_of fields) = Some (trace.Struct (ref_offsets (struct_layout layouts fields).fields))
shape_trace layouts (array_of elem) = Some (trace.Array (is_gc_storage elem.element_type))
shape_trace layouts (exn_of params) = Some (trace.Struct (ref_offsets (exn_layout layouts params).fields))
shape_trace layouts (func_of params results) = None

abbrev pub declaration_trace : Layouts → Option Declaration → Option TraceInfo
declaration_trace layouts None = None
declaration_trace layouts (Some d) = shape_trace layouts d.shape

-- the trace info of the type with that index
abbrev pub trace_at : Layouts → List Declaration → ℕ → Option TraceInfo
trace_at layouts types ty = declaration_trace layouts (slice_get types ty)
