-- The bytes of an array of small integers that a handle names, as the store's heap has them.
use Rattle.std.proofs.Common.{◌≡◌, ℕ, zero, suc, ◌+◌, ◌-◌, ◌*◌, ◌<◌, ◌≤◌, List, [], ◌∷◌, length, map, take, drop, Some, Ok, Err, refl, sym, ap, ◌∙◌, subst, arith}
use Rattle.std.specs.List.{slice_get}
use Rattle.std.proofs.lemmas.List.{length-take, length-drop}
use Rattle.std.proofs.lemmas.Option.{same_Some, slice_get_within}
use Rattle.gc_types.specs.declared.kind.Layouts.{Layouts}
use Rattle.gc_types.specs.declared.value.StorageType.{StorageType}
use Rattle.gc_types.specs.declared.value.StorageType.TheVariants as storage
use Rattle.gc_types.specs.Declarations.{Declaration, Shape, array_of, shape_at}
use Rattle.gc_types.specs.Layouts.{struct_base, array_base, storage_width}
use Rattle.gc_view.specs.Heaps.{HeapObject}
use Rattle.gc_view.specs.Slots.{StorageSlot, shape_slots, element_slots, elements_from}
use Rattle.gc_view.proofs.Layouts.{round_up-le, storage_width_positive}
use Rattle.gc_heap.specs.Access.{IsReadable, data_part}
use Rattle.gc_heap.specs.Content.{IsHeap}
use Rattle.gc_heap.specs.Extents.{HasFields, array_length}
use Rattle.gc_owner.specs.Tracing.{IsTraced}
use Rattle.gc_model.specs.Values.{Value, i32, at, Object, array}
use Rattle.gc_model.specs.Table.{Table}
use Rattle.gc_model.specs.Stores.{StoreView}
use Rattle.gc_model.specs.Stored.{byte_value}
use Rattle.gc_model.specs.Forms.{Names as Naming, naming, LiesAs}
use Rattle.gc_model.specs.Standing.{ArrayStands, ValuesLie}
use Rattle.gc_model.specs.Holds.{Placing, Holds, Stands}
use Rattle.gc_model.proofs.Elements.{byte_elements}
use Rattle.gc_model.proofs.ObjectShapes.{array_shape}
use Rattle.gc_model.proofs.ReadingBack.{number_lying}
use Rattle.gc_values.specs.declared.root.GcRootIndex.{GcRootIndex}
use Rattle.gc_values.specs.declared.root.RootFault.{RootFault}
use Rattle.gc_values.specs.declared.slot.Slot.{Slot}
use Rattle.gc_store.specs.Roots.{word_of}
use Rattle.gc_store.specs.Bytes.{NamesBytes}
use Rattle.gc_values.specs.HeldSlots.{FindsHeldSlot, IsHeldOf, IsHeldWithSlot}
use Rattle.gc_values.proofs.SlotPlaces.{bytes_reach, first_above, held_size_is, held_small}
use Rattle.gc_store.proofs.HandleWords.{named_word, never_gone}

-- lists of as many values, each of which is the other's
same_values : (xs ys : List Value) → length xs ≡ length ys → ((i : ℕ) (x y : Value) → slice_get xs i ≡ Some x → slice_get ys i ≡ Some y → x ≡ y) → xs ≡ ys
same_values [] [] same each = refl
same_values [] (y ∷ ys) same each = absurd (omega (arith, same))
same_values (x ∷ xs) [] same each = absurd (omega (arith, same))
same_values (x ∷ xs) (y ∷ ys) same each =
    let first : x ≡ y = each 0 x y refl refl in
    let rest : xs ≡ ys = same_values xs ys (omega (arith, same)) (λ i a b e f. each (suc i) a b e f) in
    λ i. first i ∷ rest i

-- values that lie in the same slots of bytes are the same
same_lying : (names : Naming) (base n from : ℕ) (values others : List Value) (bytes : List ℕ) → ValuesLie names base (element_slots storage.I8 n from) values bytes → ValuesLie names base (element_slots storage.I8 n from) others bytes → values ≡ others
same_lying names base n from values others bytes lie lies =
    same_values values others (lie.same_count ∙ sym lies.same_count) (λ i x y e f.
    let slot = found i (omega (arith, slice_get_within values i x e, lie.same_count)) in
    let of_byte = byte_slot i slot.0 slot.1 in
    let one = number_lying names storage.I8 x bytes (slot.0.offset - base) i32 refl (subst (λ (st : StorageType). LiesAs names st x bytes (slot.0.offset - base)) of_byte (lie.each i slot.0 x slot.1 e)) in
    let other = number_lying names storage.I8 y bytes (slot.0.offset - base) i32 refl (subst (λ (st : StorageType). LiesAs names st y bytes (slot.0.offset - base)) of_byte (lies.each i slot.0 y slot.1 f)) in
    one ∙ sym other)
  where
    found : (i : ℕ) → i < length (element_slots storage.I8 n from) → (slot : StorageSlot) × (slice_get (element_slots storage.I8 n from) i ≡ Some slot)
    found i below = there (element_slots storage.I8 n from) i below
      where
        there : (slots : List StorageSlot) (i : ℕ) → i < length slots → (slot : StorageSlot) × (slice_get slots i ≡ Some slot)
        there [] i below = absurd (omega (arith, below))
        there (s ∷ slots) zero below = (s, refl)
        there (s ∷ slots) (suc i) below = there slots i (omega (arith, below))

    byte_slot : (i : ℕ) (slot : StorageSlot) → slice_get (element_slots storage.I8 n from) i ≡ Some slot → slot.storage ≡ storage.I8
    byte_slot i slot e = each n from i slot e
      where
        each : (n from i : ℕ) (slot : StorageSlot) → slice_get (element_slots storage.I8 n from) i ≡ Some slot → slot.storage ≡ storage.I8
        each zero from i slot e = absurd (omega (arith, slice_get_within (element_slots storage.I8 zero from) i slot e))
        each (suc n) from zero slot e = sym (ap (λ (s : StorageSlot). s.storage) (same_Some (record { storage = storage.I8; offset = from }) slot e))
        each (suc n) from (suc i) slot e = each n (from + storage_width storage.I8) i slot e

module _ {D : Type 0} (layouts : Layouts) (s : StoreView D) (t : Table D) (place : Placing) (holds : Holds layouts s t place) (handle : GcRootIndex) (values : List Value) (b : NamesBytes s t handle values) where
  -- the handle has a word
  pub bytes_live : (f : RootFault) → word_of s handle ≡ Err f → ⊥
  bytes_live f e = never_gone layouts s t place holds handle (at b.position) f b.named e

  abbrev first : ℕ
  first = elements_from layouts b.element

  -- The array with that word.
  pub record BytesAt (word : ℕ) : Type 0 where
    pub object : HeapObject
    pub not_zero : 0 < word
    pub is : IsHeldOf s.types s.heap word object (array_of b.element) (length values)
    pub lie : ValuesLie (naming place s.ids) (struct_base layouts) (element_slots storage.I8 (length values) first) values object.bytes

  pub bytes_at : (word : ℕ) → word_of s handle ≡ Ok word → BytesAt word
  bytes_at word e =
      let named = named_word layouts s t place holds handle (at b.position) word b.named e in
      let held = holds.objects.placed b.position word named.0 in
      let same : held.entry ≡ array b.ty values = same_Some held.entry (array b.ty values) (sym held.in_table ∙ b.object_is) in
      let stands : ArrayStands layouts t.types (naming place s.ids) b.ty values held.object = subst (λ (o : Object D). Stands layouts t.types (naming place s.ids) o held.object) same held.stands in
      let declared : shape_at t.types b.ty ≡ Some (array_of b.element) = array_shape t.types b.ty b.element b.declared in
      let shape_is : stands.stands.shape ≡ array_of b.element = same_Some stands.stands.shape (array_of b.element) (sym stands.stands.declared ∙ declared) in
      record {
        object = held.object;
        not_zero = named.1;
        is = record {
          held = held.in_heap;
          declared = ap (λ (ts : List Declaration). shape_at ts held.object.ty) holds.types ∙ ap (shape_at t.types) stands.stands.same_type ∙ declared;
          has = (stands.kind, sym stands.elements);
        };
        lie = subst (λ (st : StorageType). ValuesLie (naming place s.ids) (struct_base layouts) (element_slots st (length values) first) values held.object.bytes) b.of_bytes
            (subst (λ (n : ℕ). ValuesLie (naming place s.ids) (struct_base layouts) (shape_slots layouts (array_of b.element) n) values held.object.bytes) (sym stands.stands.counted)
            (subst (λ (shape : Shape). ValuesLie (naming place s.ids) (struct_base layouts) (shape_slots layouts shape stands.stands.count) values held.object.bytes) shape_is stands.stands.values_lie));
      }

  module _ (word : ℕ) (lies : BytesAt word) where
    -- the slot of the first byte, of which there may be none
    pub first_found : (found : Slot) → FindsHeldSlot layouts s.types s.heap word 0 found → found.offset ≡ first
    first_found found finds = ap (λ (slot : StorageSlot). slot.offset) (finds lies.object lies.is.held (array_of b.element) 1 (record { storage = b.element.element_type; offset = first }) lies.is.declared refl)

    module _ (traced : IsTraced layouts s.types lies.object) (heap : IsHeap layouts s.heap) where
      room : first + length values ≤ struct_base layouts + length lies.object.bytes
      room =
          let reach = bytes_reach layouts s.types s.heap word lies.object (array_of b.element) (length values) lies.is traced in
          let wide : length values * storage_width b.element.element_type ≡ length values = ap (λ (st : StorageType). length values * storage_width st) b.of_bytes ∙ omega arith in
          omega (arith, reach, wide)

      pub first_held : IsHeldWithSlot layouts s.types s.heap word 0
      first_held = record {
        object = lies.object;
        held = lies.is.held;
        has = record {
          shape = array_of b.element;
          declared = lies.is.declared;
          has = record {
            count = 1;
            slot = record { storage = b.element.element_type; offset = first };
            slot_is = refl;
            small = (let end = held_small layouts s.heap word lies.object heap lies.is.held in omega (arith, end, room, held_size_is layouts lies.object (array_of b.element) (length values) lies.is.has));
          };
        };
      }

      pub all_readable : IsReadable layouts s.heap word first (length values)
      all_readable = record {
        object = lies.object;
        held = lies.is.held;
        has_fields = subst HasFields (sym lies.is.has.0) tt;
        from = omega (arith, first_above layouts lies.object (array_of b.element) (length values) lies.is.has, round_up-le (array_base layouts) (storage_width b.element.element_type) (storage_width_positive b.element.element_type));
        to = omega (arith, room, held_size_is layouts lies.object (array_of b.element) (length values) lies.is.has);
      }

      -- the values are the bytes that lie there
      pub values_are : (bytes : List ℕ) → bytes ≡ data_part layouts lies.object first (length values) → values ≡ map byte_value bytes
      values_are bytes copied =
          let above = first_above layouts lies.object (array_of b.element) (length values) lies.is.has in
          let behind : struct_base layouts ≤ first = omega (arith, above, round_up-le (array_base layouts) (storage_width b.element.element_type) (storage_width_positive b.element.element_type)) in
          let long : length bytes ≡ length values =
          ap length copied ∙ length-take (length values) (drop (first - struct_base layouts) lies.object.bytes) ∙ (let e = length-drop (first - struct_base layouts) lies.object.bytes in omega (arith, e, room, behind)) in
          let part : take (length bytes) (drop (first - struct_base layouts) lies.object.bytes) ≡ bytes = ap (λ (n : ℕ). take n (drop (first - struct_base layouts) lies.object.bytes)) long ∙ sym copied in
          same_lying (naming place s.ids) (struct_base layouts) (length values) first values (map byte_value bytes) lies.object.bytes lies.lie
          (subst (λ (n : ℕ). ValuesLie (naming place s.ids) (struct_base layouts) (element_slots storage.I8 n first) (map byte_value bytes) lies.object.bytes) long
          (byte_elements (naming place s.ids) (struct_base layouts) first lies.object.bytes behind bytes part))

-- the array has as many elements in every table
pub same_length : {D : Type 0} (layouts : Layouts) (s : StoreView D) (t : Table D) (place : Placing) (holds : Holds layouts s t place) (handle : GcRootIndex) (values : List Value) (b : NamesBytes s t handle values) (word : ℕ) → BytesAt layouts s t place holds handle values b word → (u : Table D) (placed : Placing) (held : Holds layouts s u placed) (others : List Value) (c : NamesBytes s u handle others) → BytesAt layouts s u placed held handle others c word → length values ≡ length others
same_length layouts s t place holds handle values b word lies u placed held others c lie =
    let same : lies.object ≡ lie.object = same_Some lies.object lie.object (sym lies.is.held ∙ lie.is.held) in
    lies.is.has.1 ∙ ap array_length same ∙ sym lie.is.has.1
