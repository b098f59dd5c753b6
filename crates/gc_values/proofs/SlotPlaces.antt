-- Where the slots of a held object lie, and that no reference lies across one of numbers.
use Rattle.std.proofs.Common.{◌≡◌, ◌≢◌, ℕ, ◌+◌, ◌^◌, ◌<◌, ◌≤◌, ◌⊎◌, inl, inr, true, false, List, [], length, Some, None, Contains, refl, sym, ap, ◌∙◌, subst, arith}
use Rattle.std.specs.Prelude.{option_map}
use Rattle.std.specs.List.{slice_get}
use Rattle.std.specs.FinMap.{get}
use Rattle.std.proofs.lemmas.Option.{none-some, same_Some}
use Rattle.gc_types.specs.declared.value.FieldType.{FieldType}
use Rattle.gc_types.specs.declared.kind.Layouts.{Layouts}
use Rattle.gc_types.specs.declared.kind.Layouts.TheVariants.{Null, Counting, Copying}
use Rattle.gc_types.specs.declared.kind.VMGcKind.TheVariants.{ArrayRef, ExternRef}
use Rattle.gc_types.specs.declared.layout.GcStructLayout.{GcStructLayout}
use Rattle.gc_types.specs.declared.kind.TypeKind.TheVariants as kinds
use Rattle.gc_types.specs.Declarations.{Declaration, Shape, struct_of, array_of, exn_of, func_of, shape_elem, shape_kind, shape_at}
use Rattle.gc_types.specs.Layouts.{struct_base, exception_base, array_base, storage_width, is_gc_storage, shape_layout, struct_layout, exn_layout, array_layout}
use Rattle.gc_memory.specs.Lists.{In}
use Rattle.gc_view.specs.Heaps.{HeapObject, HeapView}
use Rattle.gc_view.specs.Slots.{StorageSlot, shape_slots, shape_size}
use Rattle.gc_view.proofs.Spacing.{slot_end, shape_first, slot_offsets}
use Rattle.gc_view.proofs.Layouts.{stored_size-le}
use Rattle.gc_view.proofs.SlotLemmas.{SlotRange, shape_spaced, slot_range, slots_apart}
use Rattle.gc_heap.specs.Extents.{held_size, size_with, writable_offset, HasFields, array_length}
use Rattle.gc_heap.specs.References.{typed_offsets}
use Rattle.gc_heap.specs.Access.{IsReadable}
use Rattle.gc_heap.specs.Content.{IsHeap}
use Rattle.gc_heap.specs.Heap.{array_size}
use Rattle.gc_heap.proofs.SpacedLemmas.{ref_width}
use Rattle.gc_memory.proofs.ListLemmas.{contains_in, in_contains}
use Rattle.gc_owner.specs.Owners.{OwnerView, CanBegin}
use Rattle.gc_owner.specs.Tracing.{IsTraced}
use Rattle.gc_owner.specs.Writes.{IsNumberPlace, IsReferencePlace}
use Rattle.gc_model.proofs.ObjectShapes.{element_is}
use Rattle.gc_model.proofs.CollectedOffsets.{shape_offsets, RefSlot, ref_slot, slot_followed}
use Rattle.gc_values.specs.HeldSlots.{HasHeapShape, IsHeldOf}
use Rattle.gc_values.proofs.ShapeSlots.{laid_out}

-- Sizes

array_room : (layouts : Layouts) (types : List Declaration) (o : HeapObject) (element : FieldType) (n : ℕ) → shape_at types o.ty ≡ Some (array_of element) → o.kind ≡ ArrayRef → n ≡ array_length o → IsTraced layouts types o
    → shape_size layouts (array_of element) n ≤ struct_base layouts + length o.bytes
array_room layouts types o element n declared kind count (inl external) = absurd (cc)
array_room layouts types o element n declared kind count (inr (inl is)) =
    absurd (none-some is.layout (sym (laid_out layouts (slice_get types o.ty) (array_of element) declared) ∙ is.declared))
array_room layouts types o element n declared kind count (inr (inr is)) =
    let layout : array_layout layouts element ≡ is.layout =
    same_Some (array_layout layouts element) is.layout (sym (ap (option_map (array_layout layouts)) (element_is types o.ty (array_of element) declared)) ∙ is.declared) in
    let same : shape_size layouts (array_of element) n ≡ array_size is.layout (array_length o) = (λ i. array_size (layout i) (count i)) in
    omega (arith, same, is.size, stored_size-le layouts (array_size is.layout (array_length o)))

fields_room : (layouts : Layouts) (types : List Declaration) (o : HeapObject) (shape : Shape) (size : ℕ) → shape_at types o.ty ≡ Some shape → shape_elem shape ≡ None → (layout : GcStructLayout) → shape_layout layouts shape ≡ Some layout → layout.size ≡ size
    → (o.kind ≡ ExternRef → ⊥) → IsTraced layouts types o → size ≤ struct_base layouts + length o.bytes
fields_room layouts types o shape size declared no_array layout laid size_is not_external (inl external) = absurd (not_external external)
fields_room layouts types o shape size declared no_array layout laid size_is not_external (inr (inl is)) =
    let same : layout ≡ is.layout = same_Some layout is.layout (sym laid ∙ sym (laid_out layouts (slice_get types o.ty) shape declared) ∙ is.declared) in
    omega (arith, ap (λ (l : GcStructLayout). l.size) same, size_is, is.size, stored_size-le layouts is.layout.size)
fields_room layouts types o shape size declared no_array layout laid size_is not_external (inr (inr is)) =
    absurd (none-some is.layout (sym (ap (option_map (array_layout layouts)) (element_is types o.ty shape declared ∙ no_array)) ∙ is.declared))

-- the bytes of an object reach to the end of its shape
pub shape_room : (layouts : Layouts) (types : List Declaration) (o : HeapObject) (shape : Shape) (n : ℕ) → shape_at types o.ty ≡ Some shape → HasHeapShape o shape n → IsTraced layouts types o → shape_size layouts shape n ≤ struct_base layouts + length o.bytes
shape_room layouts types o (struct_of fields) n declared has traced =
    fields_room layouts types o (struct_of fields) (shape_size layouts (struct_of fields) n) declared refl (struct_layout layouts fields) refl refl (λ external. absurd (cc (sym has ∙ external))) traced
shape_room layouts types o (array_of element) n declared has traced = array_room layouts types o element n declared has.0 has.1 traced
shape_room layouts types o (exn_of params) n declared has traced =
    fields_room layouts types o (exn_of params) (shape_size layouts (exn_of params) n) declared refl (exn_layout layouts params) refl refl (λ external. absurd (cc (sym has ∙ external))) traced
shape_room layouts types o (func_of params results) n declared has traced = absurd has

pub held_size_is : (layouts : Layouts) (o : HeapObject) (shape : Shape) (n : ℕ) → HasHeapShape o shape n → held_size layouts o ≡ struct_base layouts + length o.bytes
held_size_is layouts o (struct_of fields) n has = ap (λ k. size_with layouts k (length o.bytes)) has
held_size_is layouts o (array_of element) n has = ap (λ k. size_with layouts k (length o.bytes)) has.0
held_size_is layouts o (exn_of params) n has = ap (λ k. size_with layouts k (length o.bytes)) has
held_size_is layouts o (func_of params results) n has = absurd has

has_fields : (o : HeapObject) (shape : Shape) (n : ℕ) → HasHeapShape o shape n → HasFields o.kind
has_fields o (struct_of fields) n has = subst HasFields (sym has) tt
has_fields o (array_of element) n has = subst HasFields (sym has.0) tt
has_fields o (exn_of params) n has = subst HasFields (sym has) tt
has_fields o (func_of params results) n has = absurd has

exception_above : (layouts : Layouts) → struct_base layouts ≤ exception_base layouts
exception_above Null = omega arith
exception_above Counting = omega arith
exception_above Copying = omega arith

array_above : (layouts : Layouts) → struct_base layouts ≤ array_base layouts
array_above Null = omega arith
array_above Counting = omega arith
array_above Copying = omega arith

-- the slots lie in the part that an object's holder may write, behind the header
writable_first : (layouts : Layouts) (o : HeapObject) (shape : Shape) (n : ℕ) → HasHeapShape o shape n → writable_offset layouts o.kind ≤ shape_first layouts shape
writable_first layouts o (struct_of fields) n has = subst (λ k. writable_offset layouts k ≤ struct_base layouts) (sym has) (omega arith)
writable_first layouts o (array_of element) n has = subst (λ k. writable_offset layouts k ≤ array_base layouts) (sym has.0) (omega arith)
writable_first layouts o (exn_of params) n has = subst (λ k. writable_offset layouts k ≤ exception_base layouts) (sym has) (exception_above layouts)
writable_first layouts o (func_of params results) n has = absurd has

pub first_above : (layouts : Layouts) (o : HeapObject) (shape : Shape) (n : ℕ) → HasHeapShape o shape n → struct_base layouts ≤ shape_first layouts shape
first_above layouts o (struct_of fields) n has = omega arith
first_above layouts o (array_of element) n has = array_above layouts
first_above layouts o (exn_of params) n has = exception_above layouts
first_above layouts o (func_of params results) n has = absurd has

-- an array has as many elements as it tells
counted : (o : HeapObject) (shape : Shape) (n : ℕ) → HasHeapShape o shape n → shape_kind shape ≡ kinds.Array → array_length o ≡ n
counted o (struct_of fields) n has of_array = absurd (cc)
counted o (array_of element) n has of_array = sym has.1
counted o (exn_of params) n has of_array = absurd (cc)
counted o (func_of params results) n has of_array = absurd (cc)

-- The references that an object's type tells are those of its slots.
pub offsets_are : (layouts : Layouts) (types : List Declaration) (o : HeapObject) (shape : Shape) (n : ℕ) → shape_at types o.ty ≡ Some shape → HasHeapShape o shape n → typed_offsets layouts types o o.kind ≡ slot_offsets (shape_slots layouts shape n)
offsets_are layouts types o shape n declared has = shape_offsets layouts types o shape n declared (has_fields o shape n has) (counted o shape n has)

module _ (layouts : Layouts) (types : List Declaration) (h : HeapView) (place : ℕ) (o : HeapObject) (shape : Shape) (n : ℕ) (is : IsHeldOf types h place o shape n) (traced : IsTraced layouts types o) where
  abbrev slots : List StorageSlot
  slots = shape_slots layouts shape n

  pub bytes_reach : shape_size layouts shape n ≤ struct_base layouts + length o.bytes
  bytes_reach = shape_room layouts types o shape n is.declared is.has traced

  pub slot_lies : (index : ℕ) (slot : StorageSlot) → slice_get slots index ≡ Some slot → SlotRange (shape_first layouts shape) (shape_size layouts shape n) slot
  slot_lies index slot e = slot_range (shape_first layouts shape) (shape_size layouts shape n) slots (shape_spaced layouts shape n) index slot e

  -- a slot may be read
  pub readable : (index : ℕ) (slot : StorageSlot) → slice_get slots index ≡ Some slot → IsReadable layouts h place slot.offset (storage_width slot.storage)
  readable index slot e =
      let range = slot_lies index slot e in
      record {
        object = o;
        held = is.held;
        has_fields = has_fields o shape n is.has;
        from = omega (arith, first_above layouts o shape n is.has, range.low);
        to = omega (arith, range.high, bytes_reach, held_size_is layouts o shape n is.has);
      }

  -- no reference lies across a slot that isn't followed
  slot_apart : (index : ℕ) (slot : StorageSlot) → slice_get slots index ≡ Some slot → is_gc_storage slot.storage ≡ false → (x : ℕ) → Contains (typed_offsets layouts types o o.kind) x → (x + 4 ≤ slot.offset) ⊎ (slot_end slot ≤ x)
  slot_apart index slot e number x among =
      let f = ref_slot slots x (subst (In x) (offsets_are layouts types o shape n is.declared is.has) (contains_in (typed_offsets layouts types o o.kind) x among)) in
      let wide = ref_width f.slot.storage f.is_reference in
      elim (slots_apart (shape_first layouts shape) (shape_size layouts shape n) slots (shape_spaced layouts shape n) f.index index f.slot slot f.slot_is e (differ f)) [
        | inl before ↦ inl (omega (arith, before, wide, f.at))
        | inr behind ↦ inr (omega (arith, behind, f.at))
      ]
    where
      differ : (f : RefSlot slots x) → f.index ≢ index
      differ f same =
          let slots_same : f.slot ≡ slot = same_Some f.slot slot (sym f.slot_is ∙ ap (slice_get slots) same ∙ e) in
          let both : true ≡ false = sym f.is_reference ∙ ap (λ (s : StorageSlot). is_gc_storage s.storage) slots_same ∙ number in
          absurd (cc)

module _ {D : Type 0} (layouts : Layouts) (v : OwnerView D) (place : ℕ) (o : HeapObject) (shape : Shape) (n : ℕ) (is : IsHeldOf v.types.declarations v.heap place o shape n) (can : CanBegin layouts v) where
  abbrev types : List Declaration
  types = v.types.declarations

  pub traced_here : IsTraced layouts types o
  traced_here = can.traced place o is.held

  -- a number may be written into a slot that isn't followed
  pub number_place : (index : ℕ) (slot : StorageSlot) → slice_get (shape_slots layouts shape n) index ≡ Some slot → is_gc_storage slot.storage ≡ false → (count : ℕ) → count ≡ storage_width slot.storage → IsNumberPlace layouts v place slot.offset count
  number_place index slot e number count wide =
      let range = slot_lies layouts types v.heap place o shape n is traced_here index slot e in
      record {
        object = o;
        held = is.held;
        fields = has_fields o shape n is.has;
        from = omega (arith, writable_first layouts o shape n is.has, range.low);
        to = omega (arith, range.high, bytes_reach layouts types v.heap place o shape n is traced_here, held_size_is layouts o shape n is.has, wide);
        apart = λ x among.
            subst (λ (w : ℕ). (x + 4 ≤ slot.offset) ⊎ (slot.offset + w ≤ x)) (sym wide) (slot_apart layouts types v.heap place o shape n is traced_here index slot e number x among);
      }

  -- and a reference into one that is
  pub reference_place : (index : ℕ) (slot : StorageSlot) → slice_get (shape_slots layouts shape n) index ≡ Some slot → is_gc_storage slot.storage ≡ true → IsReferencePlace layouts v place slot.offset
  reference_place index slot e followed = record {
    object = o;
    held = is.held;
    among = in_contains (typed_offsets layouts types o o.kind) slot.offset
        (subst (In slot.offset) (sym (offsets_are layouts types o shape n is.declared is.has)) (slot_followed (shape_slots layouts shape n) index slot e followed));
  }

  -- bytes may be written across slots none of which is followed
  pub bytes_place : slot_offsets (shape_slots layouts shape n) ≡ [] → (offset count : ℕ) → shape_first layouts shape ≤ offset → offset + count ≤ shape_size layouts shape n → IsNumberPlace layouts v place offset count
  bytes_place none offset count low high = record {
    object = o;
    held = is.held;
    fields = has_fields o shape n is.has;
    from = omega (arith, writable_first layouts o shape n is.has, low);
    to = omega (arith, high, bytes_reach layouts types v.heap place o shape n is traced_here, held_size_is layouts o shape n is.has);
    apart = λ x among. absurd (nothing x (subst (In x) (offsets_are layouts types o shape n is.declared is.has ∙ none) (contains_in (typed_offsets layouts types o o.kind) x among)));
  }
    where
      nothing : (x : ℕ) → In x [] → ⊥
      nothing x i = elim i [ ]

-- what a held object has ends below 2 ^ 32
pub held_small : (layouts : Layouts) (h : HeapView) (place : ℕ) (o : HeapObject) → IsHeap layouts h → get h.content place ≡ Some o → held_size layouts o < 2 ^ 32
held_small layouts h place o heap held =
    let lies = heap.objects place o held in
    omega (arith, lies.inside, heap.bound)
