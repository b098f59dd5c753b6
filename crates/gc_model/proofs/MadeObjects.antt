-- An object of a heap stands for one of the table, by the layout of its type.
use Rattle.std.proofs.Common.{◌≡◌, ℕ, ◌+◌, ◌*◌, List, length, map, Some, refl}
use Rattle.gc_types.specs.declared.value.FieldType.{FieldType}
use Rattle.gc_types.specs.declared.value.Tag.{Tag}
use Rattle.gc_types.specs.declared.value.ValType.{ValType}
use Rattle.gc_types.specs.declared.kind.Layouts.{Layouts}
use Rattle.gc_types.specs.declared.kind.VMGcKind.TheVariants.{StructRef, ArrayRef, ExnRef}
use Rattle.gc_types.specs.Declarations.{Declaration, struct_of, array_of, exn_of, constant_field, struct_fields_at, elem_at, shape_at}
use Rattle.gc_types.specs.Layouts.{struct_base, exception_base, fields_end, storage_width}
use Rattle.gc_view.specs.Bytes.{u32_at}
use Rattle.gc_view.specs.Heaps.{HeapObject}
use Rattle.gc_view.specs.Sizes.{stored_size}
use Rattle.gc_view.specs.Slots.{field_slots, element_slots, elements_from}
use Rattle.gc_model.specs.Values.{Value}
use Rattle.gc_model.specs.Forms.{Names}
use Rattle.gc_model.specs.Standing.{ValuesLie, StructStands, ArrayStands, ExceptionStands}
use Rattle.gc_model.proofs.ObjectShapes.{struct_shape, array_shape}

module _ (layouts : Layouts) (types : List Declaration) (names : Names) (ty : ℕ) (values : List Value) (h : HeapObject) (same_type : h.ty ≡ ty) where
  -- a struct
  pub struct_stands : (fields : List FieldType) → struct_fields_at types ty ≡ Some fields → h.kind ≡ StructRef → struct_base layouts + length h.bytes ≡ stored_size layouts (fields_end (struct_base layouts) fields)
      → ValuesLie names (struct_base layouts) (field_slots (struct_base layouts) fields) values h.bytes → StructStands layouts types names ty values h
  struct_stands fields declared kind size lie = record {
    kind = kind;
    stands = record {
      shape = struct_of fields;
      declared = struct_shape types ty fields declared;
      of_kind = refl;
      same_type = same_type;
      count = length values;
      counted = refl;
      size = size;
      values_lie = lie;
    };
  }

  -- an array, with its length in front
  pub array_stands : (element : FieldType) → elem_at types ty ≡ Some element → h.kind ≡ ArrayRef → u32_at h.bytes 0 ≡ length values
      → struct_base layouts + length h.bytes ≡ stored_size layouts (elements_from layouts element + length values * storage_width element.element_type)
      → ValuesLie names (struct_base layouts) (element_slots element.element_type (length values) (elements_from layouts element)) values h.bytes → ArrayStands layouts types names ty values h
  array_stands element declared kind count size lie = record {
    kind = kind;
    elements = count;
    stands = record {
      shape = array_of element;
      declared = array_shape types ty element declared;
      of_kind = refl;
      same_type = same_type;
      count = length values;
      counted = refl;
      size = size;
      values_lie = lie;
    };
  }

  -- an exception, with its tag in front
  pub exception_stands : (params : List ValType) (tag : Tag) → shape_at types ty ≡ Some (exn_of params) → h.kind ≡ ExnRef → u32_at h.bytes 0 ≡ tag.instance → u32_at h.bytes 4 ≡ tag.index
      → struct_base layouts + length h.bytes ≡ stored_size layouts (fields_end (exception_base layouts) (map constant_field params))
      → ValuesLie names (struct_base layouts) (field_slots (exception_base layouts) (map constant_field params)) values h.bytes → ExceptionStands layouts types names ty tag values h
  exception_stands params tag declared kind instance index size lie = record {
    kind = kind;
    instance = instance;
    index = index;
    stands = record {
      shape = exn_of params;
      declared = declared;
      of_kind = refl;
      same_type = same_type;
      count = length values;
      counted = refl;
      size = size;
      values_lie = lie;
    };
  }
