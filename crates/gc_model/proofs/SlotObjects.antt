-- An object stands for the table's after one of its values was written, and its references are those of its values.
use Rattle.std.proofs.Common.{◌≡◌, ℕ, ◌+◌, ◌-◌, ◌≤◌, List, [], ◌∷◌, ◌++◌, map, length, Some, Bool, true, false, cond, refl, sym, ap, ◌∙◌, subst, arith, suc}
use Rattle.std.specs.List.{slice_get, flat_map}
use Rattle.std.specs.Prelude.{slice_set}
use Rattle.std.proofs.lemmas.List.{length-set}
use Rattle.std.proofs.lemmas.List.Concat.{flat_map-cons}
use Rattle.gc_types.specs.declared.kind.Layouts.{Layouts}
use Rattle.gc_types.specs.declared.kind.TypeKind.{TypeKind}
use Rattle.gc_types.specs.Declarations.{Declaration}
use Rattle.gc_types.specs.Layouts.{struct_base, is_gc_storage}
use Rattle.gc_view.specs.Bytes.{put_bytes, u32_at}
use Rattle.gc_view.specs.Heaps.{HeapObject}
use Rattle.gc_view.specs.Slots.{StorageSlot, shape_slots, shape_size}
use Rattle.gc_view.proofs.Spacing.{shape_first, followed_slots, slot_offsets}
use Rattle.gc_view.proofs.ByteLemmas.{length-put_bytes, put_bytes-below, u32_in_same}
use Rattle.gc_view.proofs.Layouts.{stored_size-le}
use Rattle.gc_view.proofs.SlotLemmas.{shape_spaced, first_behind, slot_range}
use Rattle.gc_model.specs.Values.{Value, numeric, function, continuation, reference, Reference, Object}
use Rattle.gc_model.specs.Table.{with_value}
use Rattle.gc_model.specs.Words.{Placing, IsWord}
use Rattle.gc_model.specs.Forms.{Names, LiesAs, number_at}
use Rattle.gc_model.specs.Reach.{value_references, object_values}
use Rattle.gc_model.specs.Standing.{ValuesLie, ShapeStands, Stands}
use Rattle.gc_model.proofs.SlotWrites.{shape_write, slot_within}
use Rattle.gc_model.proofs.ObjectShapes.{IsSlotOf}
use Rattle.gc_model.proofs.ObjectStands.{changed_values, slot_not_host, slot_stands, stands_again}
use Rattle.gc_model.proofs.ReadingBack.{storage_reference, reference_width}
use Rattle.gc_model.proofs.PointParts.{IsEncodedAs, is_reference}

-- the object with other bytes in a slot
abbrev pub slot_written : Layouts → HeapObject → StorageSlot → List ℕ → HeapObject
slot_written layouts h slot ws = record h { bytes = put_bytes h.bytes (slot.offset - struct_base layouts) ws }

module _ (layouts : Layouts) (types : List Declaration) (names : Names) (ty : ℕ) (values : List Value) (h : HeapObject) (k : ℕ) (slot : StorageSlot) (v : Value) (ws : List ℕ) (encoded : IsEncodedAs names slot.storage v ws) where
  abbrev base : ℕ
  base = struct_base layouts

  -- the bytes reach to the end of the shape
  room : (kind : TypeKind) (stands : ShapeStands layouts types names kind ty values h) → shape_size layouts stands.shape stands.count ≤ base + length h.bytes
  room kind stands = omega (arith, stands.size, stored_size-le layouts (shape_size layouts stands.shape stands.count))

  within : (kind : TypeKind) (stands : ShapeStands layouts types names kind ty values h) → slice_get (shape_slots layouts stands.shape stands.count) k ≡ Some slot → slot.offset - base + length ws ≤ length h.bytes
  within kind stands is =
      slot_within names base (shape_first layouts stands.shape) (shape_size layouts stands.shape stands.count) (shape_slots layouts stands.shape stands.count)
      (first_behind layouts stands.shape stands.count k slot is) (shape_spaced layouts stands.shape stands.count) k slot v h.bytes ws is encoded (room kind stands)

  -- a shape stands with the value written
  shape_stands_write : (kind : TypeKind) (stands : ShapeStands layouts types names kind ty values h) → slice_get (shape_slots layouts stands.shape stands.count) k ≡ Some slot
      → ShapeStands layouts types names kind ty (slice_set values k v) (slot_written layouts h slot ws)
  shape_stands_write kind stands is = record {
    shape = stands.shape;
    declared = stands.declared;
    of_kind = stands.of_kind;
    same_type = stands.same_type;
    count = stands.count;
    counted = length-set values k v ∙ stands.counted;
    size = ap (λ n. base + n) (length-put_bytes h.bytes (slot.offset - base) ws (within kind stands is)) ∙ stands.size;
    values_lie =
        shape_write names base (shape_first layouts stands.shape) (shape_size layouts stands.shape stands.count) (shape_slots layouts stands.shape stands.count)
        (first_behind layouts stands.shape stands.count k slot is) (shape_spaced layouts stands.shape stands.count) values h.bytes k slot v ws stands.values_lie is encoded (room kind stands);
  }

  -- a word in front of all slots is as it was
  word_kept : (kind : TypeKind) (stands : ShapeStands layouts types names kind ty values h) → slice_get (shape_slots layouts stands.shape stands.count) k ≡ Some slot
      → (o : ℕ) → base + (o + 4) ≤ shape_first layouts stands.shape → u32_at (put_bytes h.bytes (slot.offset - base) ws) o ≡ u32_at h.bytes o
  word_kept kind stands is o before =
      let low = (slot_range (shape_first layouts stands.shape) (shape_size layouts stands.shape stands.count) (shape_slots layouts stands.shape stands.count) (shape_spaced layouts stands.shape stands.count) k slot is).low in
      u32_in_same h.bytes (put_bytes h.bytes (slot.offset - base) ws) o (put_bytes-below h.bytes (slot.offset - base) ws o (o + 4) (within kind stands is) (omega (arith, low, before)))

-- An object stands for the changed one after a value was written into its slot.
pub stands_write : {D : Type 0} (layouts : Layouts) (types : List Declaration) (names : Names) (o : Object D) (h : HeapObject) (k : ℕ) (slot : StorageSlot) (v : Value) (ws : List ℕ)
    → IsSlotOf layouts types o k slot → IsEncodedAs names slot.storage v ws → Stands layouts types names o h → Stands layouts types names (with_value k v o) (slot_written layouts h slot ws)
stands_write {D} layouts types names o h k slot v ws is encoded stands =
    subst (λ (x : Object D). Stands layouts types names x (slot_written layouts h slot ws)) (changed_values k v o)
    (stands_again layouts types types names names (slice_set (object_values o) k v) h (slot_written layouts h slot ws) refl o (slot_not_host layouts types o k slot is) (length-set (object_values o) k v)
    (λ by.
    let at = slot_stands layouts types names o h by k slot is in
    record {
      stands = shape_stands_write layouts types names by.ty (object_values o) h k slot v ws encoded by.type_kind by.stands at;
      front = word_kept layouts types names by.ty (object_values o) h k slot v ws encoded by.type_kind by.stands at;
    })
    stands)

-- words are those of references, in order
abbrev pub AreWordsOf : Placing → List Reference → List ℕ → Type 0
AreWordsOf place [] [] = Unit {0}
AreWordsOf place (r ∷ rs) (word ∷ words) = IsWord place r word × AreWordsOf place rs words
AreWordsOf place _ _ = ⊥

-- the words at the offsets that a collection follows
abbrev pub words_at : ℕ → List ℕ → List StorageSlot → List ℕ
words_at base bytes slots = map (λ (o : ℕ). u32_at bytes (o - base)) (slot_offsets slots)

-- a value's references, by whether its slot is followed
first_word : (names : Names) (slot : StorageSlot) (v : Value) (bytes : List ℕ) (o : ℕ) (rs : List Reference) (ws : List ℕ) (b : Bool) → is_gc_storage slot.storage ≡ b → LiesAs names slot.storage v bytes o → AreWordsOf names.place rs ws
    → AreWordsOf names.place (value_references v ++ rs) (cond b (u32_at bytes o ∷ ws) ws)
first_word names slot (numeric kind n) bytes o rs ws true is lies rest = absurd (cc (sym is ∙ storage_reference slot.storage ∙ ap is_reference lies.form))
first_word names slot (numeric kind n) bytes o rs ws false is lies rest = rest
first_word names slot (function f) bytes o rs ws true is lies rest = absurd (cc (sym is ∙ storage_reference slot.storage ∙ ap is_reference lies.form))
first_word names slot (function f) bytes o rs ws false is lies rest = rest
first_word names slot (continuation c) bytes o rs ws true is lies rest = absurd (cc (sym is ∙ storage_reference slot.storage ∙ ap is_reference lies.form))
first_word names slot (continuation c) bytes o rs ws false is lies rest = rest
first_word names slot (reference class r) bytes o rs ws true is lies rest =
    (subst (λ (w : ℕ). IsWord names.place r (number_at w bytes o)) (reference_width slot.storage (ap is_reference lies.form)) lies.code, rest)
first_word names slot (reference class r) bytes o rs ws false is lies rest = absurd (cc (sym is ∙ storage_reference slot.storage ∙ ap is_reference lies.form))

-- The words at the offsets that a collection follows are, in order, those of the values' references.
pub references_are_words : (names : Names) (base : ℕ) (slots : List StorageSlot) (values : List Value) (bytes : List ℕ) → ValuesLie names base slots values bytes
    → AreWordsOf names.place (flat_map value_references values) (words_at base bytes slots)
references_are_words names base [] [] bytes lie = tt
references_are_words names base [] (v ∷ values) bytes lie = absurd (omega (arith, lie.same_count))
references_are_words names base (slot ∷ slots) [] bytes lie = absurd (omega (arith, lie.same_count))
references_are_words names base (slot ∷ slots) (v ∷ values) bytes lie =
    let rest : ValuesLie names base slots values bytes = record { same_count = omega (arith, lie.same_count); each = λ i s w e f. lie.each (suc i) s w e f } in
    let words = references_are_words names base slots values bytes rest in
    let first = first_word names slot v bytes (slot.offset - base) (flat_map value_references values) (words_at base bytes slots) (is_gc_storage slot.storage) refl (lie.each 0 slot v refl refl) words in
    subst (λ (rs : List Reference). AreWordsOf names.place rs (words_at base bytes (slot ∷ slots))) (sym (flat_map-cons value_references v values))
    (subst (AreWordsOf names.place (value_references v ++ flat_map value_references values)) (sym (by_test (is_gc_storage slot.storage))) first)
  where
    by_test : (b : Bool) → map (λ (o : ℕ). u32_at bytes (o - base)) (map (λ (s : StorageSlot). s.offset) (cond b (slot ∷ followed_slots slots) (followed_slots slots))) ≡ cond b (u32_at bytes (slot.offset - base) ∷ words_at base bytes slots) (words_at base bytes slots)
    by_test true = refl
    by_test false = refl
