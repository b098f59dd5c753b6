-- The slots of objects that a heap holds.
use Rattle.std.specs.Prelude.{◌≡◌, ℕ, ◌-◌, ◌<◌, ◌^◌, List, None, Some, slice_get}
use Rattle.std.specs.Int.{bytes_low_first}
use Rattle.std.specs.FinMap as finite
use Rattle.gc_types.specs.declared.kind.Layouts.{Layouts}
use Rattle.gc_types.specs.declared.kind.VMGcKind.TheVariants.{StructRef, ArrayRef, ExnRef}
use Rattle.gc_types.specs.Declarations.{Declaration, Shape, struct_of, array_of, exn_of, func_of, shape_at, shape_elem, shape_fields}
use Rattle.gc_types.specs.declared.layout.GcStructLayout.{GcStructLayout}
use Rattle.gc_types.specs.Layouts.{shape_layout, struct_base, storage_width}
use Rattle.gc_view.specs.Heaps.{HeapView, HeapObject}
use Rattle.gc_view.specs.Slots.{StorageSlot, shape_slots}
use Rattle.gc_heap.specs.Extents.{array_length}
use Rattle.gc_heap.specs.Heap.{put_object, with_data}
use Rattle.gc_owner.specs.Owners.{OwnerView}
use Rattle.gc_model.specs.Forms.{Form, InternedIds, storage_form, number_at}
use Rattle.gc_values.specs.declared.slot.FieldSlots.{FieldSlots}
use Rattle.gc_values.specs.declared.slot.Slot.{Slot}
use Rattle.gc_values.specs.declared.stored.Stored.{Stored}
use Rattle.gc_values.specs.declared.stored.Found.{Found}
use Rattle.gc_values.specs.declared.root.RawValue.{RawValue}
use Rattle.gc_values.specs.Kept.{OfForm, IsFound, FitsForm, KeptAs, CanBeKept, kept_code, raw_form}
use Rattle.gc_values.specs.Words.{AreOwnedRising, handle_roots}

-- a slot as the code has it
abbrev pub storage_slot : Slot → StorageSlot
storage_slot slot = record { storage = slot.storage; offset = slot.offset }

-- There is a slot of that index in an object of the shape, if it is large enough where it is an array.
pub record HasShapeSlot (layouts : Layouts) (shape : Shape) (index : ℕ) : Type 0 where
  pub count : ℕ
  pub slot : StorageSlot
  pub slot_is : slice_get (shape_slots layouts shape count) index ≡ Some slot
  pub small : slot.offset < 2 ^ 32

-- it is that slot
abbrev pub FindsShapeSlot : Layouts → Shape → ℕ → Slot → Type 0
FindsShapeSlot layouts shape index found =
    (count : ℕ) (slot : StorageSlot) → slice_get (shape_slots layouts shape count) index ≡ Some slot → storage_slot found ≡ slot

-- They are the fields of the shape, which is a struct's or an exception's, and where they lie.
pub record AreFieldSlots (layouts : Layouts) (shape : Shape) (slots : FieldSlots) : Type 0 where
  pub fields_are : shape_fields shape ≡ Some slots.fields.now
  pub layout : GcStructLayout
  pub layout_is : shape_layout layouts shape ≡ Some layout
  pub layouts_are : layout.fields ≡ slots.field_layouts.now

-- The type is declared, and its shape has that slot.
pub record HasStorageSlot (layouts : Layouts) (types : List Declaration) (ty index : ℕ) : Type 0 where
  pub shape : Shape
  pub declared : shape_at types ty ≡ Some shape
  pub has : HasShapeSlot layouts shape index

-- it is that slot
abbrev pub FindsSlot : Layouts → List Declaration → ℕ → ℕ → Slot → Type 0
FindsSlot layouts types ty index found =
    (shape : Shape) (count : ℕ) (slot : StorageSlot) → shape_at types ty ≡ Some shape → slice_get (shape_slots layouts shape count) index ≡ Some slot
    → storage_slot found ≡ slot

-- the slot of that index of the object at a place
abbrev pub FindsHeldSlot : Layouts → List Declaration → HeapView → ℕ → ℕ → Slot → Type 0
FindsHeldSlot layouts types h place index found =
    (object : HeapObject) → finite.get h.content place ≡ Some object → FindsSlot layouts types object.ty index found

-- the type of the object at a place has such a slot
pub record IsHeldWithSlot (layouts : Layouts) (types : List Declaration) (h : HeapView) (place index : ℕ) : Type 0 where
  pub object : HeapObject
  pub held : finite.get h.content place ≡ Some object
  pub has : HasStorageSlot layouts types object.ty index

-- an object of a heap is of a shape, with so many elements where it is an array
abbrev pub HasHeapShape : HeapObject → Shape → ℕ → Type 0
HasHeapShape o (struct_of fields) n = o.kind ≡ StructRef
HasHeapShape o (array_of element) n = (o.kind ≡ ArrayRef) × (n ≡ array_length o)
HasHeapShape o (exn_of params) n = o.kind ≡ ExnRef
HasHeapShape o (func_of params results) n = ⊥

-- the object at a place is of a declared type with that shape
pub record IsHeldOf (types : List Declaration) (h : HeapView) (place : ℕ) (object : HeapObject) (shape : Shape) (count : ℕ) : Type 0 where
  pub held : finite.get h.content place ≡ Some object
  pub declared : shape_at types object.ty ≡ Some shape
  pub has : HasHeapShape object shape count

-- A slot of a held object of an owner may be written, with what is of its form.
pub record CanWriteSlot {D : Type 0} (layouts : Layouts) (v : OwnerView D) (place : ℕ) (slot : StorageSlot) (x : Stored) : Type 0 where
  pub object : HeapObject
  pub shape : Shape
  pub count : ℕ
  pub is : IsHeldOf v.types.declarations v.heap place object shape count
  pub index : ℕ
  pub slot_is : slice_get (shape_slots layouts shape count) index ≡ Some slot
  pub of_form : OfForm v.heap (storage_form slot.storage) x

-- the owner with these bytes in the object at a place, and nothing else changed but counts
abbrev pub WritesAt : {D : Type 0} → Layouts → OwnerView D → OwnerView D → ℕ → ℕ → List ℕ → Type 0
WritesAt layouts old new place offset bytes =
    (o : HeapObject) → finite.get old.heap.content place ≡ Some o
    → new ≡ record old { heap = record (put_object old.heap place (with_data layouts o offset bytes)) { counts = new.heap.counts } }

-- What is kept of a value may be written to a slot of a held object of an owner.
pub record CanWriteKept {D : Type 0} (layouts : Layouts) (ids : InternedIds) (v : OwnerView D) (place : ℕ) (slot : StorageSlot) (r : RawValue) : Type 0 where
  pub rising : AreOwnedRising v.roots.owned
  pub kept : CanBeKept ids (handle_roots v.roots) r
  pub goes : (x : Stored) → KeptAs ids (handle_roots v.roots) r x → CanWriteSlot layouts v place slot x

-- the slot has the low bytes of what is kept of the value
pub record WritesKept {D : Type 0} (layouts : Layouts) (ids : InternedIds) (old new : OwnerView D) (place : ℕ) (slot : StorageSlot) (r : RawValue) : Type 0 where
  pub kept : Stored
  pub kept_is : KeptAs ids (handle_roots old.roots) r kept
  pub small : FitsForm (raw_form r) (kept_code kept)
  pub writes : WritesAt layouts old new place slot.offset (bytes_low_first 0 (storage_width slot.storage) (kept_code kept))

-- what lies at an offset of the object at a place is found, in a slot of that form and width
abbrev pub FindsAt : Layouts → HeapView → ℕ → Form → ℕ → ℕ → Found → Type 0
FindsAt layouts h place form width offset x =
    (object : HeapObject) → finite.get h.content place ≡ Some object → IsFound form (number_at width object.bytes (offset - struct_base layouts)) x

-- and is no wider than such values are
abbrev pub FitsAt : Layouts → HeapView → ℕ → Form → ℕ → ℕ → Type 0
FitsAt layouts h place form width offset =
    (object : HeapObject) → finite.get h.content place ≡ Some object → FitsForm form (number_at width object.bytes (offset - struct_base layouts))
