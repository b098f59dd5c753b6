-- The values of an object lie in it after its references were moved.
use Rattle.std.proofs.Common.{◌≡◌, ◌≢◌, ℕ, ◌+◌, ◌-◌, ◌<◌, ◌≤◌, inl, inr, true, false, List, [], Some, Contains, refl, sym, ap, ◌∙◌, subst, arith}
use Rattle.std.specs.List.{slice_get}
use Rattle.std.proofs.lemmas.List.{same_lists}
use Rattle.gc_types.specs.declared.value.StorageType.{StorageType}
use Rattle.gc_types.specs.declared.kind.Layouts.{Layouts}
use Rattle.gc_types.specs.declared.kind.VMGcKind.TheVariants.{ExternRef}
use Rattle.gc_types.specs.Declarations.{Declaration, Shape}
use Rattle.gc_types.specs.Layouts.{struct_base, storage_width, is_gc_storage}
use Rattle.gc_memory.specs.Lists.{In}
use Rattle.gc_view.specs.Bytes.{SameBytes, u32_at}
use Rattle.gc_view.specs.Heaps.{HeapObject}
use Rattle.gc_view.specs.Slots.{StorageSlot, shape_slots, shape_size}
use Rattle.gc_view.proofs.Spacing.{AreSpaced, shape_first, slot_offsets}
use Rattle.gc_view.proofs.ByteLemmas.{u32_in_same}
use Rattle.gc_view.proofs.SlotLemmas.{shape_spaced, first_behind, slot_range, slots_apart}
use Rattle.gc_model.specs.Values.{Reference, Value, Object, struct, array, host, exception}
use Rattle.gc_model.specs.Reach.{object_values, IsHost}
use Rattle.gc_model.specs.Holds.{Placing, IsWord, InternedIds, naming, HostStands, Stands}
use Rattle.gc_model.specs.Forms.{value_form, LiesAs, number_at}
use Rattle.gc_model.specs.Standing.{ValuesLie}
use Rattle.gc_model.proofs.ReadingBack.{storage_reference, reference_width, value_moved}
use Rattle.gc_model.proofs.Encoding.{number_in_same}
use Rattle.gc_model.proofs.ObjectStands.{with_values-own, stands_again}
use Rattle.gc_model.proofs.PointParts.{is_reference}
use Rattle.gc_heap.specs.References.{reference_offsets, references, word_in}
use Rattle.gc_heap.specs.Content.{IsSpare}
use Rattle.gc_heap.specs.Collection.{moved, IsNoReference, IsMoved}
use Rattle.gc_heap.proofs.AgainLemmas.{external_offsets}
use Rattle.gc_heap.proofs.SpacedLemmas.{ref_width}
use Rattle.gc_memory.proofs.ListLemmas.{contains_in, in_contains, map_in}
use Rattle.gc_owner.specs.Tracing.{IsTraced}
use Rattle.gc_owner.proofs.FollowedOffsets.{SameElements}
use Rattle.gc_model.proofs.CollectedOffsets.{ref_slot, slot_followed, traced_slots}

-- an object whose references were moved, and the slots of its values, among which a collection follows the references
module _ (layouts : Layouts) (types : List Declaration) (to : ℕ → ℕ) (old new : HeapObject) (is_moved : IsMoved layouts types to old new) (from end : ℕ) (slots : List StorageSlot) (spaced : AreSpaced from slots end) (offsets_are : SameElements (reference_offsets layouts types old) (slot_offsets slots)) where
  abbrev base : ℕ
  base = struct_base layouts

  -- what lies in front of the slots lies in no reference
  front_apart : (at : ℕ) → base + at < from → IsNoReference (reference_offsets layouts types old) (base + at)
  front_apart at before offset among =
      let r = ref_slot slots offset (offsets_are.there offset (contains_in (reference_offsets layouts types old) offset among)) in
      inl (omega (arith, before, (slot_range from end slots spaced r.index r.slot r.slot_is).low, r.at))

  -- so its words are as they were
  pub front_kept : (offset : ℕ) → base + (offset + 4) ≤ from → u32_at new.bytes offset ≡ u32_at old.bytes offset
  front_kept offset before = u32_in_same old.bytes new.bytes offset (record {
    same_length = is_moved.size;
    at = λ j d low high. is_moved.rest j d (front_apart j (omega (arith, high, before)));
  })

  module _ (i : ℕ) (slot : StorageSlot) (slot_is : slice_get slots i ≡ Some slot) where
    differ_by : (other : StorageSlot) → Some slot ≡ Some other → is_gc_storage slot.storage ≡ false → is_gc_storage other.storage ≡ true → ⊥
    differ_by other same number followed = let is : slot ≡ other = grind (arith, same) in absurd (cc)

    -- the bytes of a number lie in no reference
    number_apart : is_gc_storage slot.storage ≡ false → (at : ℕ) → slot.offset - base ≤ at → at < slot.offset - base + storage_width slot.storage → base ≤ slot.offset → IsNoReference (reference_offsets layouts types old) (base + at)
    number_apart number at low high behind offset among =
        let r = ref_slot slots offset (offsets_are.there offset (contains_in (reference_offsets layouts types old) offset among)) in
        let differ : i ≢ r.index = λ e. differ_by r.slot (sym slot_is ∙ ap (slice_get slots) e ∙ r.slot_is) number r.is_reference in
        let width = ref_width r.slot.storage r.is_reference in
        elim (slots_apart from end slots spaced i r.index slot r.slot slot_is r.slot_is differ) [
          | inl before ↦ inl (omega (arith, before, r.at, low, high, behind))
          | inr after ↦ inr (omega (arith, after, r.at, low, high, behind, width))
        ]

    number_same : is_gc_storage slot.storage ≡ false → base ≤ slot.offset → SameBytes old.bytes new.bytes (slot.offset - base) (slot.offset - base + storage_width slot.storage)
    number_same number behind = record {
      same_length = is_moved.size;
      at = λ j d low high. is_moved.rest j d (number_apart number j low high behind);
    }

    -- a reference slot is one of those that are followed
    referenced : is_gc_storage slot.storage ≡ true → In slot.offset (reference_offsets layouts types old)
    referenced followed = offsets_are.back slot.offset (slot_followed slots i slot slot_is followed)

  module _ (place place' : Placing) (ids : InternedIds) (carried : (r : Reference) (w : ℕ) → Contains (references layouts types old) w → IsWord place r w → IsWord place' r (moved to w)) where
    -- the word of a reference at a traced offset is that of its new place
    word_moved : (r : Reference) (offset : ℕ) → In offset (reference_offsets layouts types old) → IsWord place r (u32_at old.bytes (offset - base)) → IsWord place' r (u32_at new.bytes (offset - base))
    word_moved r offset i is_word =
        let offsets : List ℕ = reference_offsets layouts types old in
        let word : ℕ = word_in layouts old offset in
        let among : Contains (references layouts types old) word = in_contains (references layouts types old) word (map_in (word_in layouts old) offsets offset i) in
        subst (IsWord place' r) (sym (is_moved.refers offset (in_contains offsets offset i))) (carried r word among is_word)

    lies_moved : (i : ℕ) (slot : StorageSlot) → slice_get slots i ≡ Some slot → base ≤ slot.offset → (v : Value)
        → LiesAs (naming place ids) slot.storage v old.bytes (slot.offset - base) → LiesAs (naming place' ids) slot.storage v new.bytes (slot.offset - base)
    lies_moved i slot slot_is behind v lies =
        let ty : StorageType = slot.storage in
        let at : ℕ = slot.offset - base in
        let followed : is_gc_storage ty ≡ is_reference (value_form v) = storage_reference ty ∙ ap is_reference lies.form in
        record {
          form = lies.form;
          code = value_moved place place' ids v (number_at (storage_width ty) old.bytes at) (number_at (storage_width ty) new.bytes at)
              (λ number. number_in_same (storage_width ty) old.bytes new.bytes at (number_same i slot slot_is (followed ∙ number) behind))
              (λ r refers is_word.
              let width : storage_width ty ≡ 4 = reference_width ty (ap is_reference lies.form ∙ refers) in
              subst (λ (w : ℕ). IsWord place' r (number_at w new.bytes at)) (sym width)
              (word_moved r slot.offset (referenced i slot slot_is (followed ∙ refers)) (subst (λ (w : ℕ). IsWord place r (number_at w old.bytes at)) width is_word)))
              lies.code;
        }

    -- The values lie in their slots still.
    pub values_moved : ((i : ℕ) (slot : StorageSlot) → slice_get slots i ≡ Some slot → base ≤ from) → (values : List Value) → ValuesLie (naming place ids) base slots values old.bytes → ValuesLie (naming place' ids) base slots values new.bytes
    values_moved behind values lie = record {
      same_count = lie.same_count;
      each = λ i slot value e f.
          lies_moved i slot e (omega (arith, behind i slot e, (slot_range from end slots spaced i slot e).low)) value (lie.each i slot value e f);
    }

-- An object with values is that object still, where what stood for it was moved.
shape_moved : {D : Type 0} (layouts : Layouts) (types : List Declaration) (to : ℕ → ℕ) (old new : HeapObject) (place place' : Placing) (ids : InternedIds) → IsMoved layouts types to old new → IsTraced layouts types old
    → ((r : Reference) (w : ℕ) → Contains (references layouts types old) w → IsWord place r w → IsWord place' r (moved to w))
    → (o : Object D) → ¬ IsHost (Some o) → Stands layouts types (naming place ids) o old → Stands layouts types (naming place' ids) o new
shape_moved {D} layouts types to old new place place' ids is_moved traced carried o not_host stands =
    subst (λ (x : Object D). Stands layouts types (naming place' ids) x new) (with_values-own o)
    (stands_again layouts types types (naming place ids) (naming place' ids) (object_values o) old new is_moved.kind o not_host refl
    (λ by.
    let shape : Shape = by.stands.shape in
    let slots : List StorageSlot = shape_slots layouts shape by.stands.count in
    let spaced = shape_spaced layouts shape by.stands.count in
    let offsets_are = traced_slots layouts types (naming place ids) o old not_host stands traced by in
    record {
      stands = record {
        shape = shape;
        declared = by.stands.declared;
        of_kind = by.stands.of_kind;
        same_type = is_moved.ty ∙ by.stands.same_type;
        count = by.stands.count;
        counted = by.stands.counted;
        size = ap (λ n. struct_base layouts + n) is_moved.size ∙ by.stands.size;
        values_lie = values_moved layouts types to old new is_moved (shape_first layouts shape) (shape_size layouts shape by.stands.count) slots spaced offsets_are place place' ids carried
            (first_behind layouts shape by.stands.count) (object_values o) by.stands.values_lie;
      };
      front = front_kept layouts types to old new is_moved (shape_first layouts shape) (shape_size layouts shape by.stands.count) slots spaced offsets_are;
    })
    stands)

-- an external object has no references, so its bytes are as they were
pub host_bytes : (layouts : Layouts) (types : List Declaration) (to : ℕ → ℕ) (old new : HeapObject) → IsMoved layouts types to old new → IsSpare layouts old → old.kind ≡ ExternRef → new.bytes ≡ old.bytes
host_bytes layouts types to old new is_moved spare external =
    let none = external_offsets layouts types old external spare in
    same_lists _ _ is_moved.size (λ at d below. is_moved.rest at d (λ offset among.
    let nothing : Contains [] offset = subst (λ offsets. Contains offsets offset) none among in
    absurd (omega (arith, nothing.1))))

-- and it is that of the same host value
pub host_moved : (layouts : Layouts) (types : List Declaration) (to : ℕ → ℕ) (old new : HeapObject) (id : ℕ) → IsMoved layouts types to old new → IsSpare layouts old → HostStands id old → HostStands id new
host_moved layouts types to old new id is_moved spare is = record {
  kind = is_moved.kind ∙ is.kind;
  id_is = ap (λ (bytes : List ℕ). u32_at bytes 0) (host_bytes layouts types to old new is_moved spare is.kind) ∙ is.id_is;
}

-- as it was before
pub host_was : (layouts : Layouts) (types : List Declaration) (to : ℕ → ℕ) (old new : HeapObject) (id : ℕ) → IsMoved layouts types to old new → IsSpare layouts old → HostStands id new → HostStands id old
host_was layouts types to old new id is_moved spare is =
    let external : old.kind ≡ ExternRef = sym is_moved.kind ∙ is.kind in
    record { kind = external; id_is = ap (λ (bytes : List ℕ). u32_at bytes 0) (sym (host_bytes layouts types to old new is_moved spare external)) ∙ is.id_is }

-- An object of the table is that object still, where what stood for it was moved.
pub stands_moved : {D : Type 0} (layouts : Layouts) (types : List Declaration) (to : ℕ → ℕ) (old new : HeapObject) (place place' : Placing) (ids : InternedIds) → IsMoved layouts types to old new → IsSpare layouts old → IsTraced layouts types old
    → ((r : Reference) (w : ℕ) → Contains (references layouts types old) w → IsWord place r w → IsWord place' r (moved to w))
    → (o : Object D) → Stands layouts types (naming place ids) o old → Stands layouts types (naming place' ids) o new
stands_moved {D} layouts types to old new place place' ids is_moved spare traced carried (struct ty values) stands =
    shape_moved {D = D} layouts types to old new place place' ids is_moved traced carried (struct ty values) (λ is. is) stands
stands_moved {D} layouts types to old new place place' ids is_moved spare traced carried (array ty values) stands =
    shape_moved {D = D} layouts types to old new place place' ids is_moved traced carried (array ty values) (λ is. is) stands
stands_moved {D} layouts types to old new place place' ids is_moved spare traced carried (host value) stands = (stands.0, host_moved layouts types to old new stands.0 is_moved spare stands.1)
stands_moved {D} layouts types to old new place place' ids is_moved spare traced carried (exception ty tag values) stands =
    shape_moved {D = D} layouts types to old new place place' ids is_moved traced carried (exception ty tag values) (λ is. is) stands
