-- Where a value of an object lies in the heap, by the object's word or by a handle that names it.
use Rattle.std.proofs.Common.{◌≡◌, ℕ, ◌-◌, ◌<◌, List, Some, Ok, Err, sym, ap, ◌∙◌, subst, arith}
use Rattle.std.specs.List.{slice_get}
use Rattle.std.proofs.lemmas.Option.{same_Some}
use Rattle.gc_types.specs.declared.kind.Layouts.{Layouts}
use Rattle.gc_types.specs.declared.kind.TypeKind.TheVariants as kinds
use Rattle.gc_types.specs.declared.kind.VMGcKind.TheVariants.{StructRef, ArrayRef, ExnRef}
use Rattle.gc_types.specs.Declarations.{Declaration, Shape, struct_of, array_of, exn_of, shape_kind, shape_at}
use Rattle.gc_types.specs.Layouts.{struct_base, storage_width}
use Rattle.gc_view.specs.Heaps.{HeapObject}
use Rattle.gc_view.specs.Slots.{StorageSlot, shape_slots}
use Rattle.gc_heap.specs.Access.{IsReadable}
use Rattle.gc_heap.specs.Content.{IsHeap}
use Rattle.gc_heap.specs.Extents.{array_length}
use Rattle.gc_owner.specs.Tracing.{IsTraced}
use Rattle.gc_model.specs.Values.{Value, at, Object, struct, array, host, exception}
use Rattle.gc_model.specs.Table.{Table}
use Rattle.gc_model.specs.Reach.{IsHost}
use Rattle.gc_model.specs.Stores.{StoreView}
use Rattle.gc_model.specs.Forms.{Form, Names as Naming, naming, number_at, storage_form}
use Rattle.gc_model.specs.Holds.{Placing, Holds, Stands}
use Rattle.gc_model.proofs.Words.{place_even}
use Rattle.gc_model.proofs.ObjectStands.{StandsByShape, value_not_host, LyingValue, shape_value, slot_stands}
use Rattle.gc_values.specs.declared.root.GcRootIndex.{GcRootIndex}
use Rattle.gc_values.specs.declared.root.RootFault.{RootFault}
use Rattle.gc_store.specs.Roots.{word_of, HasValue}
use Rattle.gc_store.specs.Reading.{HasValueIn}
use Rattle.gc_values.specs.declared.slot.Slot.{Slot}
use Rattle.gc_values.specs.declared.stored.Found.{Found}
use Rattle.gc_values.specs.Kept.{FitsForm, FoundStands, IsFound}
use Rattle.gc_values.specs.HeldSlots.{FindsAt, FindsHeldSlot, FitsAt, HasHeapShape, IsHeldOf, IsHeldWithSlot, storage_slot}
use Rattle.gc_values.proofs.SlotPlaces.{bytes_reach, slot_lies, held_size_is, held_small, readable}
use Rattle.gc_store.proofs.HandleWords.{named_word, never_gone}

-- An object of a heap has the shape of the one that it stands for.

is_struct : (h : HeapObject) (shape : Shape) (n : ℕ) → h.kind ≡ StructRef → shape_kind shape ≡ kinds.Struct → HasHeapShape h shape n
is_struct h (struct_of fields) n is of_kind = is
is_struct h _ n is of_kind = absurd (cc)

is_array : (h : HeapObject) (shape : Shape) (n : ℕ) → h.kind ≡ ArrayRef → n ≡ array_length h → shape_kind shape ≡ kinds.Array → HasHeapShape h shape n
is_array h (array_of element) n is count of_kind = (is, count)
is_array h _ n is count of_kind = absurd (cc)

is_exn : (h : HeapObject) (shape : Shape) (n : ℕ) → h.kind ≡ ExnRef → shape_kind shape ≡ kinds.Exn → HasHeapShape h shape n
is_exn h (exn_of params) n is of_kind = is
is_exn h _ n is of_kind = absurd (cc)

-- What stands for an object with values: its shape, and that it has it.
record ShapeOf {D : Type 0} (layouts : Layouts) (types : List Declaration) (names : Naming) (o : Object D) (h : HeapObject) : Type 0 where
  by : StandsByShape layouts types names o h
  has : HasHeapShape h by.stands.shape by.stands.count

shape_of : {D : Type 0} (layouts : Layouts) (types : List Declaration) (names : Naming) (o : Object D) (h : HeapObject) → ¬ IsHost (Some o) → Stands layouts types names o h → ShapeOf layouts types names o h
shape_of layouts types names (struct ty values) h not_host is = record {
  by = record { type_kind = kinds.Struct; ty = ty; stands = is.stands; of_shape = (is.stands.declared, is.stands.of_kind) };
  has = is_struct h is.stands.shape is.stands.count is.kind is.stands.of_kind;
}
shape_of layouts types names (array ty values) h not_host is = record {
  by = record { type_kind = kinds.Array; ty = ty; stands = is.stands; of_shape = (is.stands.declared, is.stands.of_kind) };
  has = is_array h is.stands.shape is.stands.count is.kind (sym is.stands.counted ∙ sym is.elements) is.stands.of_kind;
}
shape_of layouts types names (host value) h not_host is = absurd (not_host tt)
shape_of layouts types names (exception ty tag values) h not_host is = record {
  by = record { type_kind = kinds.Exn; ty = ty; stands = is.stands; of_shape = (is.stands.declared, is.stands.of_kind) };
  has = is_exn h is.stands.shape is.stands.count is.kind is.stands.of_kind;
}

-- The value at an index of the object with that word, as the store's heap has it.
pub record LyingAt {D : Type 0} (layouts : Layouts) (s : StoreView D) (t : Table D) (place : Placing) (position word : ℕ) (o : Object D) (index : ℕ) (value : Value) : Type 0 where
  pub object : HeapObject
  pub placed : place position ≡ Some word
  pub not_zero : 0 < word
  pub stands : Stands layouts t.types (naming place s.ids) o object
  pub lying : LyingValue layouts t.types (naming place s.ids) o object index value
  pub shape : Shape
  pub count : ℕ
  pub is : IsHeldOf s.types s.heap word object shape count
  pub slot_is : slice_get (shape_slots layouts shape count) index ≡ Some lying.slot

module _ {D : Type 0} (layouts : Layouts) (s : StoreView D) (t : Table D) (place : Placing) (holds : Holds layouts s t place) (word index : ℕ) (value : Value) (has : HasValueIn t place word index value) where
  pub lying_in : LyingAt layouts s t place has.position word has.object index value
  lying_in =
      let held = holds.objects.placed has.position word has.is_word in
      let names = naming place s.ids in
      let same : held.entry ≡ has.object = same_Some held.entry has.object (sym held.in_table ∙ has.object_is) in
      let stands : Stands layouts t.types names has.object held.object = subst (λ (o : Object D). Stands layouts t.types names o held.object) same held.stands in
      let of = shape_of layouts t.types names has.object held.object (value_not_host has.object index value has.value_at) stands in
      let lying = shape_value layouts t.types names has.object held.object of.by index value has.value_at in
      record {
        object = held.object;
        placed = has.is_word;
        not_zero = (place_even layouts t place s.heap holds.objects has.position word has.is_word).1;
        stands = stands;
        lying = lying;
        shape = of.by.stands.shape;
        count = of.by.stands.count;
        is = record {
          held = held.in_heap;
          declared = ap (λ (ts : List Declaration). shape_at ts held.object.ty) holds.types ∙ ap (shape_at t.types) of.by.stands.same_type ∙ of.by.stands.declared;
          has = of.has;
        };
        slot_is = slot_stands layouts t.types names has.object held.object of.by index lying.slot lying.is_slot;
      }

module _ {D : Type 0} (layouts : Layouts) (s : StoreView D) (t : Table D) (place : Placing) (holds : Holds layouts s t place) (handle : GcRootIndex) (index : ℕ) (value : Value) (has : HasValue s t handle index value) where
  -- what a handle names has its values by the word of the handle
  abbrev pub value_in : (word : ℕ) → word_of s handle ≡ Ok word → HasValueIn t place word index value
  value_in word e = record {
    position = has.position;
    is_word = (named_word layouts s t place holds handle (at has.position) word has.named e).0;
    object = has.object;
    object_is = has.object_is;
    value_at = has.value_at;
  }

  pub lying_at : (word : ℕ) → word_of s handle ≡ Ok word → LyingAt layouts s t place has.position word has.object index value
  lying_at word e = lying_in layouts s t place holds word index value (value_in word e)

  -- its handle has a word
  pub value_live : (f : RootFault) → word_of s handle ≡ Err f → ⊥
  value_live f e = never_gone layouts s t place holds handle (at has.position) f has.named e

module _ {D : Type 0} (layouts : Layouts) (s : StoreView D) (t : Table D) (place : Placing) (position word : ℕ) (o : Object D) (index : ℕ) (value : Value) (lies : LyingAt layouts s t place position word o index value) where
  -- The type table has the slot, and it may be read.
  module _ (traced : IsTraced layouts s.types lies.object) where
    pub has_slot : IsHeap layouts s.heap → IsHeldWithSlot layouts s.types s.heap word index
    has_slot heap = record {
      object = lies.object;
      held = lies.is.held;
      has = record {
        shape = lies.shape;
        declared = lies.is.declared;
        has = record {
          count = lies.count;
          slot = lies.lying.slot;
          slot_is = lies.slot_is;
          small = (
              let end = held_small layouts s.heap word lies.object heap lies.is.held in
              let reach = bytes_reach layouts s.types s.heap word lies.object lies.shape lies.count lies.is traced in
              let range = slot_lies layouts s.types s.heap word lies.object lies.shape lies.count lies.is traced index lies.lying.slot lies.slot_is in
              omega (arith, range.high, end, reach, held_size_is layouts lies.object lies.shape lies.count lies.is.has));
        };
      };
    }

    pub slot_readable : IsReadable layouts s.heap word lies.lying.slot.offset (storage_width lies.lying.slot.storage)
    slot_readable = readable layouts s.types s.heap word lies.object lies.shape lies.count lies.is traced index lies.lying.slot lies.slot_is

  -- the slot that the type table has is where the value lies
  pub slot_is_found : (found : Slot) → FindsHeldSlot layouts s.types s.heap word index found → storage_slot found ≡ lies.lying.slot
  slot_is_found found finds = finds lies.object lies.is.held lies.shape lies.count lies.lying.slot lies.is.declared lies.slot_is

  -- what is found there stands for the value
  pub found_stands : (x : Found) (found : Slot) → storage_slot found ≡ lies.lying.slot
      → FindsAt layouts s.heap word (storage_form found.storage) (storage_width found.storage) found.offset x
      → FitsAt layouts s.heap word (storage_form found.storage) (storage_width found.storage) found.offset
      → FoundStands (naming place s.ids) x value
  found_stands x found same finds fits =
      let slot = lies.lying.slot in
      let at : IsFound (storage_form slot.storage) (number_at (storage_width slot.storage) lies.object.bytes (slot.offset - struct_base layouts)) x =
      subst (λ (y : StorageSlot). IsFound (storage_form y.storage) (number_at (storage_width y.storage) lies.object.bytes (y.offset - struct_base layouts)) x) same (finds lies.object lies.is.held) in
      let bound : FitsForm (storage_form slot.storage) (number_at (storage_width slot.storage) lies.object.bytes (slot.offset - struct_base layouts)) =
      subst (λ (y : StorageSlot). FitsForm (storage_form y.storage) (number_at (storage_width y.storage) lies.object.bytes (y.offset - struct_base layouts))) same (fits lies.object lies.is.held) in
      record {
        code = number_at (storage_width slot.storage) lies.object.bytes (slot.offset - struct_base layouts);
        found = subst (λ (f : Form). IsFound f (number_at (storage_width slot.storage) lies.object.bytes (slot.offset - struct_base layouts)) x) lies.lying.lies.form at;
        small = subst (λ (f : Form). FitsForm f (number_at (storage_width slot.storage) lies.object.bytes (slot.offset - struct_base layouts))) lies.lying.lies.form bound;
        is_code = lies.lying.lies.code;
      }
