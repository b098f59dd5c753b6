-- What stands for an object with values, whichever its kind is, and when it stands still.
use Rattle.std.proofs.Common.{◌≡◌, ℕ, ◌+◌, ◌-◌, ◌<◌, ◌≤◌, inl, inr, List, length, Option, Some, None, refl, sym, ap, ◌∙◌, arith}
use Rattle.std.specs.List.{slice_get}
use Rattle.std.specs.Prelude.{slice_set}
use Rattle.std.proofs.lemmas.Option.{none-some, same_Some, slice_get_cases}
use Rattle.gc_types.specs.declared.value.FieldType.{FieldType}
use Rattle.gc_types.specs.declared.kind.Layouts.{Layouts}
use Rattle.gc_types.specs.declared.kind.Layouts.TheVariants.{Null, Counting, Copying}
use Rattle.gc_types.specs.declared.kind.TypeKind.{TypeKind}
use Rattle.gc_types.specs.declared.kind.VMGcKind.{VMGcKind}
use Rattle.gc_types.specs.declared.kind.VMGcKind.TheVariants.{StructRef, ArrayRef, ExnRef, ExternRef}
use Rattle.gc_types.specs.declared.kind.TypeKind.TheVariants as kinds
use Rattle.gc_types.specs.Declarations.{Declaration, Shape, struct_of, array_of, exn_of, func_of, shape_kind, shape_at}
use Rattle.gc_types.specs.Layouts.{struct_base, exception_base, array_base, storage_width}
use Rattle.gc_view.specs.Bytes.{u32_at}
use Rattle.gc_view.specs.Heaps.{HeapObject}
use Rattle.gc_view.specs.Slots.{StorageSlot, shape_slots, shape_size}
use Rattle.gc_view.proofs.Spacing.{shape_first}
use Rattle.gc_view.proofs.Layouts.{stored_size-le}
use Rattle.gc_view.proofs.SlotLemmas.{shape_spaced, first_behind, slot_range}
use Rattle.gc_model.specs.Values.{Value, Object, struct, array, host, exception}
use Rattle.gc_model.specs.Reach.{object_values, IsHost}
use Rattle.gc_model.specs.Stored.{value_type}
use Rattle.gc_model.specs.Table.{with_value}
use Rattle.gc_model.specs.Forms.{Names, LiesAs}
use Rattle.gc_model.specs.Standing.{Stands, ShapeStands, ValuesLie}
use Rattle.gc_model.proofs.Lists.{slice_get-same_length}
use Rattle.gc_model.proofs.ObjectShapes.{IsOfShape, IsSlotOf, shape_declared, type_of_slot, value_type_is, slot_alone}

-- the kind that an object has in a heap
abbrev pub object_kind : {D : Type 0} → Object D → VMGcKind
object_kind (struct ty values) = StructRef
object_kind (array ty values) = ArrayRef
object_kind (host value) = ExternRef
object_kind (exception ty tag values) = ExnRef

-- the index of its type; a host object has none
abbrev pub object_type : {D : Type 0} → Object D → Option ℕ
object_type (struct ty values) = Some ty
object_type (array ty values) = Some ty
object_type (host value) = None
object_type (exception ty tag values) = Some ty

module _ {D : Type 0} (layouts : Layouts) (types : List Declaration) (names : Names) where
  -- what stands for it is of that kind
  pub stands_kind : (o : Object D) (h : HeapObject) → Stands layouts types names o h → h.kind ≡ object_kind o
  stands_kind (struct ty values) h is = is.kind
  stands_kind (array ty values) h is = is.kind
  stands_kind (host value) h is = is.1.kind
  stands_kind (exception ty tag values) h is = is.kind

  -- and of that type
  pub stands_type : (o : Object D) (h : HeapObject) (ty : ℕ) → object_type o ≡ Some ty → Stands layouts types names o h → h.ty ≡ ty
  stands_type (struct own values) h ty e is = is.stands.same_type ∙ same_Some own ty e
  stands_type (array own values) h ty e is = is.stands.same_type ∙ same_Some own ty e
  stands_type (host value) h ty e is = absurd (none-some ty e)
  stands_type (exception own tag values) h ty e is = is.stands.same_type ∙ same_Some own ty e

-- What stands for an object that is no host object: the shape of its type.
pub record StandsByShape {D : Type 0} (layouts : Layouts) (types : List Declaration) (names : Names) (o : Object D) (h : HeapObject) : Type 0 where
  pub type_kind : TypeKind
  pub ty : ℕ
  pub stands : ShapeStands layouts types names type_kind ty (object_values o) h
  pub of_shape : IsOfShape types o stands.shape

pub stands_by_shape : {D : Type 0} (layouts : Layouts) (types : List Declaration) (names : Names) (o : Object D) (h : HeapObject) → ¬ IsHost (Some o) → Stands layouts types names o h → StandsByShape layouts types names o h
stands_by_shape layouts types names (struct ty values) h not_host is = record { type_kind = kinds.Struct; ty = ty; stands = is.stands; of_shape = (is.stands.declared, is.stands.of_kind) }
stands_by_shape layouts types names (array ty values) h not_host is = record { type_kind = kinds.Array; ty = ty; stands = is.stands; of_shape = (is.stands.declared, is.stands.of_kind) }
stands_by_shape layouts types names (host value) h not_host is = absurd (not_host tt)
stands_by_shape layouts types names (exception ty tag values) h not_host is = record { type_kind = kinds.Exn; ty = ty; stands = is.stands; of_shape = (is.stands.declared, is.stands.of_kind) }

-- an object with a value is no host object
pub value_not_host : {D : Type 0} (o : Object D) (index : ℕ) (value : Value) → slice_get (object_values o) index ≡ Some value → ¬ IsHost (Some o)
value_not_host (struct ty values) index value e is = is
value_not_host (array ty values) index value e is = is
value_not_host (host host_value) index value e is = none-some value e
value_not_host (exception ty tag values) index value e is = is

-- nor is one with a slot
pub slot_not_host : {D : Type 0} (layouts : Layouts) (types : List Declaration) (o : Object D) (index : ℕ) (slot : StorageSlot) → IsSlotOf layouts types o index slot → ¬ IsHost (Some o)
slot_not_host layouts types (struct ty values) index slot is bad = bad
slot_not_host layouts types (array ty values) index slot is bad = bad
slot_not_host layouts types (host value) index slot is bad = none-some is.shape is.declared
slot_not_host layouts types (exception ty tag values) index slot is bad = bad

-- an index below the number of values has its value
pub value_below : (values : List Value) (index : ℕ) → index < length values → (value : Value) × (slice_get values index ≡ Some value)
value_below values index below =
    elim ((slice_get_cases values index).1) [
      | inl found ↦ (found.0, found.2)
      | inr past ↦ absurd (omega (arith, past.0, below))
    ]

-- A value of an object, and how it lies in the heap's object: in a slot of its type, behind the header and inside.
pub record LyingValue {D : Type 0} (layouts : Layouts) (types : List Declaration) (names : Names) (o : Object D) (h : HeapObject) (index : ℕ) (value : Value) : Type 0 where
  pub slot : StorageSlot
  pub is_slot : IsSlotOf layouts types o index slot
  pub lies : LiesAs names slot.storage value h.bytes (slot.offset - struct_base layouts)
  pub field : FieldType
  pub field_is : value_type types o index ≡ Some field
  pub type_is : field.element_type ≡ slot.storage
  pub first : shape_first layouts is_slot.shape ≤ slot.offset
  pub low : struct_base layouts ≤ slot.offset
  pub inside : slot.offset - struct_base layouts + storage_width slot.storage ≤ length h.bytes

module _ {D : Type 0} (layouts : Layouts) (types : List Declaration) (names : Names) (o : Object D) (h : HeapObject) (is : StandsByShape layouts types names o h) where
  abbrev shape : Shape
  shape = is.stands.shape

  -- the bytes reach to the end of the shape
  pub shape_room : shape_size layouts shape is.stands.count ≤ struct_base layouts + length h.bytes
  shape_room = omega (arith, is.stands.size, stored_size-le layouts (shape_size layouts shape is.stands.count))

  -- a slot that the object's type has at an index is that of what stands for it
  pub slot_stands : (index : ℕ) (slot : StorageSlot) → IsSlotOf layouts types o index slot → slice_get (shape_slots layouts shape is.stands.count) index ≡ Some slot
  slot_stands index slot slot_is =
      let shapes : Some slot_is.shape ≡ Some shape = sym slot_is.declared ∙ shape_declared layouts types o shape is.of_shape in
      let same : slot_is.shape ≡ shape = grind (arith, shapes) in
      ap (λ (n : ℕ). slice_get (shape_slots layouts shape n) index) (sym is.stands.counted)
      ∙ ap (λ (s : Shape). slice_get (shape_slots layouts s (length (object_values o))) index) (sym same)
      ∙ slot_is.slot_is

  slot_holds : (index : ℕ) (value : Value) (slot : StorageSlot) → slice_get (object_values o) index ≡ Some value → slice_get (shape_slots layouts shape is.stands.count) index ≡ Some slot → LyingValue layouts types names o h index value
  slot_holds index value slot value_is slot_is =
      let slots : List StorageSlot = shape_slots layouts shape is.stands.count in
      let range = slot_range (shape_first layouts shape) (shape_size layouts shape is.stands.count) slots (shape_spaced layouts shape is.stands.count) index slot slot_is in
      let behind = first_behind layouts shape is.stands.count index slot slot_is in
      let ty = type_of_slot layouts shape is.stands.count index slot slot_is in
      record {
        slot = slot;
        is_slot = record {
          shape = shape;
          declared = shape_declared layouts types o shape is.of_shape;
          slot_is = ap (λ (n : ℕ). slice_get (shape_slots layouts shape n) index) is.stands.counted ∙ slot_is;
        };
        lies = is.stands.values_lie.each index slot value slot_is value_is;
        field = ty.field;
        field_is = value_type_is layouts types o shape index is.of_shape ∙ ty.field_is;
        type_is = ty.type_is;
        first = range.low;
        low = omega (arith, behind, range.low);
        inside = omega (arith, behind, range.low, range.high, shape_room);
      }

  pub shape_value : (index : ℕ) (value : Value) → slice_get (object_values o) index ≡ Some value → LyingValue layouts types names o h index value
  shape_value index value e =
      let slot = slice_get-same_length (object_values o) (shape_slots layouts shape is.stands.count) index value is.stands.values_lie.same_count e in
      slot_holds index value slot.0 e slot.1

  -- each slot has a value
  pub shape_slot_value : (index : ℕ) (slot : StorageSlot) → slice_get (shape_slots layouts shape is.stands.count) index ≡ Some slot → (value : Value) × (slice_get (object_values o) index ≡ Some value)
  shape_slot_value index slot e = slice_get-same_length (shape_slots layouts shape is.stands.count) (object_values o) index slot (sym is.stands.values_lie.same_count) e

module _ {D : Type 0} (layouts : Layouts) (types : List Declaration) (names : Names) (o : Object D) (h : HeapObject) (stands : Stands layouts types names o h) (index : ℕ) where
  -- Each value of an object lies in a slot.
  pub value_lying : (value : Value) → slice_get (object_values o) index ≡ Some value → LyingValue layouts types names o h index value
  value_lying value e = shape_value layouts types names o h (stands_by_shape layouts types names o h (value_not_host o index value e) stands) index value e

  -- each slot of its type has a value
  pub slot_value : (slot : StorageSlot) → IsSlotOf layouts types o index slot → (value : Value) × (slice_get (object_values o) index ≡ Some value)
  slot_value slot is =
      let by = stands_by_shape layouts types names o h (slot_not_host layouts types o index slot is) stands in
      shape_slot_value layouts types names o h by index slot (slot_stands layouts types names o h by index slot is)

-- The type of the value in a slot, as the table says and as the slot does.
pub record SlotType {D : Type 0} (types : List Declaration) (o : Object D) (index : ℕ) (slot : StorageSlot) : Type 0 where
  pub field : FieldType
  pub field_is : value_type types o index ≡ Some field
  pub type_is : field.element_type ≡ slot.storage

pub slot_type : {D : Type 0} (layouts : Layouts) (types : List Declaration) (names : Names) (o : Object D) (h : HeapObject) → Stands layouts types names o h → (index : ℕ) (slot : StorageSlot) → IsSlotOf layouts types o index slot → SlotType types o index slot
slot_type layouts types names o h stands index slot is =
    let value = slot_value layouts types names o h stands index slot is in
    let lying = value_lying layouts types names o h stands index value.0 value.1 in
    record { field = lying.field; field_is = lying.field_is; type_is = lying.type_is ∙ ap (λ (s : StorageSlot). s.storage) (slot_alone layouts types o index lying.slot slot lying.is_slot is) }

-- the object with other values
abbrev pub with_values : {D : Type 0} → List Value → Object D → Object D
with_values values (struct ty old) = struct ty values
with_values values (array ty old) = array ty values
with_values values (host value) = host value
with_values values (exception ty tag old) = exception ty tag values

-- its own are those it has
pub with_values-own : {D : Type 0} (o : Object D) → with_values (object_values o) o ≡ o
with_values-own (struct ty values) = refl
with_values-own (array ty values) = refl
with_values-own (host value) = refl
with_values-own (exception ty tag values) = refl

-- the values of the changed object
pub changed_values : {D : Type 0} (k : ℕ) (v : Value) (o : Object D) → with_values (slice_set (object_values o) k v) o ≡ with_value k v o
changed_values k v (struct ty values) = refl
changed_values k v (array ty values) = refl
changed_values k v (host value) = refl
changed_values k v (exception ty tag values) = refl

-- the words in front of the slots of a shape are as they were
abbrev pub KeepsFront : Layouts → Shape → List ℕ → List ℕ → Type 0
KeepsFront layouts shape before after = (offset : ℕ) → struct_base layouts + (offset + 4) ≤ shape_first layouts shape → u32_at after offset ≡ u32_at before offset

-- A shape that stood stands after a change, and what lies in front of its slots is as it was.
pub record StandsAgain (layouts : Layouts) (types : List Declaration) (names : Names) (type_kind : TypeKind) (ty : ℕ) (values : List Value) (shape : Shape) (old new : HeapObject) : Type 0 where
  pub stands : ShapeStands layouts types names type_kind ty values new
  pub front : KeepsFront layouts shape old.bytes new.bytes

array_above : (layouts : Layouts) → struct_base layouts + 4 ≤ array_base layouts
array_above Null = omega arith
array_above Counting = omega arith
array_above Copying = omega arith

exception_above : (layouts : Layouts) → struct_base layouts + 8 ≤ exception_base layouts
exception_above Null = omega arith
exception_above Counting = omega arith
exception_above Copying = omega arith

-- an array's length and an exception's tag lie in front of the slots
pub array_front : (layouts : Layouts) (shape : Shape) → shape_kind shape ≡ kinds.Array → struct_base layouts + (0 + 4) ≤ shape_first layouts shape
array_front layouts (struct_of fields) is = absurd (cc)
array_front layouts (array_of element) is = array_above layouts
array_front layouts (exn_of params) is = absurd (cc)
array_front layouts (func_of params results) is = absurd (cc)

exception_front : (layouts : Layouts) (shape : Shape) → shape_kind shape ≡ kinds.Exn → struct_base layouts + 8 ≤ shape_first layouts shape
exception_front layouts (struct_of fields) is = absurd (cc)
exception_front layouts (array_of element) is = absurd (cc)
exception_front layouts (exn_of params) is = exception_above layouts
exception_front layouts (func_of params results) is = absurd (cc)

-- An object stands with as many other values, by other types and names, where its shape does.
module _ {D : Type 0} (layouts : Layouts) (types types' : List Declaration) (names names' : Names) (values : List Value) (old new : HeapObject) (kind : new.kind ≡ old.kind) where
  pub stands_again : (o : Object D) → ¬ IsHost (Some o) → length values ≡ length (object_values o)
      → ((by : StandsByShape layouts types names o old) → StandsAgain layouts types' names' by.type_kind by.ty values by.stands.shape old new)
      → Stands layouts types names o old → Stands layouts types' names' (with_values values o) new
  stands_again (struct ty was) not_host same again is = record {
    kind = kind ∙ is.kind;
    stands = (again (record { type_kind = kinds.Struct; ty = ty; stands = is.stands; of_shape = (is.stands.declared, is.stands.of_kind) })).stands;
  }
  stands_again (array ty was) not_host same again is =
      let now = again (record { type_kind = kinds.Array; ty = ty; stands = is.stands; of_shape = (is.stands.declared, is.stands.of_kind) }) in
      record {
        kind = kind ∙ is.kind;
        elements = now.front 0 (array_front layouts is.stands.shape is.stands.of_kind) ∙ is.elements ∙ sym same;
        stands = now.stands;
      }
  stands_again (host value) not_host same again is = absurd (not_host tt)
  stands_again (exception ty tag was) not_host same again is =
      let now = again (record { type_kind = kinds.Exn; ty = ty; stands = is.stands; of_shape = (is.stands.declared, is.stands.of_kind) }) in
      let front = exception_front layouts is.stands.shape is.stands.of_kind in
      record {
        kind = kind ∙ is.kind;
        instance = now.front 0 (omega (arith, front)) ∙ is.instance;
        index = now.front 4 (omega (arith, front)) ∙ is.index;
        stands = now.stands;
      }

shape_renamed : (layouts : Layouts) (types types' : List Declaration) (names names' : Names) (type_kind : TypeKind) (ty : ℕ) (values : List Value) (h : HeapObject)
    → ((ty : ℕ) (shape : Shape) → shape_at types ty ≡ Some shape → shape_at types' ty ≡ Some shape)
    → ((slots : List StorageSlot) (values : List Value) → ValuesLie names (struct_base layouts) slots values h.bytes → ValuesLie names' (struct_base layouts) slots values h.bytes)
    → ShapeStands layouts types names type_kind ty values h → ShapeStands layouts types' names' type_kind ty values h
shape_renamed layouts types types' names names' type_kind ty values h declares lie is = record {
  shape = is.shape;
  declared = declares ty is.shape is.declared;
  of_kind = is.of_kind;
  same_type = is.same_type;
  count = is.count;
  counted = is.counted;
  size = is.size;
  values_lie = lie (shape_slots layouts is.shape is.count) values is.values_lie;
}

-- the same values stand by other types or names, in the same object of the heap
pub stands_renamed : {D : Type 0} (layouts : Layouts) (types types' : List Declaration) (names names' : Names) (o : Object D) (h : HeapObject)
    → ((ty : ℕ) (shape : Shape) → shape_at types ty ≡ Some shape → shape_at types' ty ≡ Some shape)
    → ((slots : List StorageSlot) (values : List Value) → ValuesLie names (struct_base layouts) slots values h.bytes → ValuesLie names' (struct_base layouts) slots values h.bytes)
    → Stands layouts types names o h → Stands layouts types' names' o h
stands_renamed layouts types types' names names' (struct ty values) h declares lie is = record {
  kind = is.kind;
  stands = shape_renamed layouts types types' names names' kinds.Struct ty values h declares lie is.stands;
}
stands_renamed layouts types types' names names' (array ty values) h declares lie is = record {
  kind = is.kind;
  elements = is.elements;
  stands = shape_renamed layouts types types' names names' kinds.Array ty values h declares lie is.stands;
}
stands_renamed layouts types types' names names' (host value) h declares lie is = is
stands_renamed layouts types types' names names' (exception ty tag values) h declares lie is = record {
  kind = is.kind;
  instance = is.instance;
  index = is.index;
  stands = shape_renamed layouts types types' names names' kinds.Exn ty values h declares lie is.stands;
}
