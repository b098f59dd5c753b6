-- In every kind of heap a collection follows the reference slots of an object that is traced.
use Rattle.std.proofs.Common.{◌≡◌, ℕ, zero, suc, ◌+◌, true, false, cond, List, [], ◌∷◌, map, length, Some, None, Option, option_map, inl, inr, refl, sym, ap, ◌∙◌, subst, arith}
use Rattle.std.specs.List.{slice_get}
use Rattle.std.proofs.lemmas.Option.{none-some}
use Rattle.gc_types.specs.declared.value.StorageType.{StorageType}
use Rattle.gc_types.specs.declared.kind.Layouts.{Layouts}
use Rattle.gc_types.specs.declared.kind.Layouts.TheVariants.{Null, Counting, Copying}
use Rattle.gc_types.specs.declared.kind.TypeKind.TheVariants as kinds
use Rattle.gc_types.specs.declared.layout.TraceInfo.TheVariants as trace
use Rattle.gc_types.specs.Declarations.{Shape, struct_of, array_of, exn_of, func_of, shape_kind, Declaration, constant_field, shape_at}
use Rattle.gc_types.specs.Layouts.{struct_base, exception_base, array_base, round_up, storage_width, is_gc_storage, shape_trace, declaration_trace}
use Rattle.gc_view.specs.Heaps.{HeapObject}
use Rattle.gc_view.specs.Slots.{StorageSlot, element_slots, elements_from, shape_slots}
use Rattle.gc_view.proofs.Spacing.{followed_slots, slot_offsets}
use Rattle.gc_view.proofs.SlotLemmas.{fields_followed, elements_followed, elements_not_followed}
use Rattle.gc_memory.specs.Lists.{In, here, there}
use Rattle.gc_heap.specs.Extents.{HasFields, array_length}
use Rattle.gc_heap.specs.References.{word_offsets, info_offsets, typed_offsets, reference_offsets}
use Rattle.gc_heap.proofs.SpacedLemmas.{ref_width}
use Rattle.gc_memory.proofs.ListLemmas.{first_or_later}
use Rattle.gc_heap.proofs.ReferenceLemmas.{typed_is}
use Rattle.gc_owner.specs.Tracing.{IsTraced}
use Rattle.gc_owner.proofs.FollowedOffsets.{SameElements, followed_offsets}
use Rattle.gc_model.specs.Values.{Object, struct, array, host, exception}
use Rattle.gc_model.specs.Reach.{object_values, IsHost}
use Rattle.gc_model.specs.Forms.{Names}
use Rattle.gc_model.specs.Standing.{Stands}
use Rattle.gc_model.proofs.ObjectShapes.{IsOfShape}
use Rattle.gc_model.proofs.ObjectStands.{StandsByShape}

-- the offsets of elements of four bytes are those of words
word_elements : (ty : StorageType) (n p : ℕ) → storage_width ty ≡ 4 → map (λ (s : StorageSlot). s.offset) (element_slots ty n p) ≡ word_offsets p n
word_elements ty zero p wide = refl
word_elements ty (suc n) p wide = ap (λ os. p ∷ os) (word_elements ty n (p + storage_width ty) wide ∙ ap (λ w. word_offsets (p + w) n) wide)

-- they begin where an array's length ends
words_from : (layouts : Layouts) → round_up (array_base layouts) 4 ≡ array_base layouts
words_from Null = refl
words_from Counting = refl
words_from Copying = refl

-- The offsets that the trace info of a shape names are those of its reference slots.
pub shape_traced : (layouts : Layouts) (h : HeapObject) (shape : Shape) (count : ℕ) → (shape_kind shape ≡ kinds.Array → array_length h ≡ count) → info_offsets layouts h (shape_trace layouts shape) ≡ slot_offsets (shape_slots layouts shape count)
shape_traced layouts h (struct_of fields) count counted = sym (fields_followed (struct_base layouts) fields)
shape_traced layouts h (array_of element) count counted = by_element (is_gc_storage element.element_type) refl
  where
    by_element : (b : _) → is_gc_storage element.element_type ≡ b → info_offsets layouts h (Some (trace.Array b)) ≡ slot_offsets (element_slots element.element_type count (elements_from layouts element))
    by_element true is =
        let wide : storage_width element.element_type ≡ 4 = ref_width element.element_type is in
        ap (word_offsets (array_base layouts)) (counted refl)
        ∙ ap (λ p. word_offsets p count) (sym (words_from layouts) ∙ ap (round_up (array_base layouts)) (sym wide))
        ∙ sym (word_elements element.element_type count (elements_from layouts element) wide)
        ∙ sym (elements_followed element.element_type count (elements_from layouts element) is)
    by_element false is = sym (elements_not_followed element.element_type count (elements_from layouts element) is)
shape_traced layouts h (exn_of params) count counted = sym (fields_followed (exception_base layouts) (map constant_field params))
shape_traced layouts h (func_of params results) count counted = refl

traced_as : (layouts : Layouts) (d : Option Declaration) (shape : Shape) → option_map (λ (x : Declaration). x.shape) d ≡ Some shape → declaration_trace layouts d ≡ shape_trace layouts shape
traced_as layouts None shape e = absurd (none-some shape e)
traced_as layouts (Some d) shape e = let same : d.shape ≡ shape = grind (arith, e) in ap (shape_trace layouts) same

-- The references of an object of a type with that shape, as its type tells them, are those in its slots.
pub shape_offsets : (layouts : Layouts) (types : List Declaration) (h : HeapObject) (shape : Shape) (count : ℕ) → shape_at types h.ty ≡ Some shape → HasFields h.kind → (shape_kind shape ≡ kinds.Array → array_length h ≡ count)
    → typed_offsets layouts types h h.kind ≡ slot_offsets (shape_slots layouts shape count)
shape_offsets layouts types h shape count declared fields counted =
    typed_is layouts types h h.kind fields
    ∙ ap (info_offsets layouts h) (traced_as layouts (slice_get types h.ty) shape declared)
    ∙ shape_traced layouts h shape count counted

module _ {D : Type 0} (layouts : Layouts) (types : List Declaration) (names : Names) where
  -- what stands for an object with values has fields or elements
  pub stands_fields : (o : Object D) (h : HeapObject) → ¬ IsHost (Some o) → Stands layouts types names o h → HasFields h.kind
  stands_fields (struct ty values) h not_host is = subst HasFields (sym is.kind) tt
  stands_fields (array ty values) h not_host is = subst HasFields (sym is.kind) tt
  stands_fields (host value) h not_host is = absurd (not_host tt)
  stands_fields (exception ty tag values) h not_host is = subst HasFields (sym is.kind) tt

  -- what stands for an array tells as many elements
  pub array_counted : (o : Object D) (h : HeapObject) (shape : Shape) → Stands layouts types names o h → IsOfShape types o shape → shape_kind shape ≡ kinds.Array → array_length h ≡ length (object_values o)
  array_counted (struct ty values) h shape is of_shape of_array = absurd (cc (sym of_shape.1 ∙ of_array))
  array_counted (array ty values) h shape is of_shape of_array = is.elements
  array_counted (host value) h shape is of_shape of_array = absurd of_shape
  array_counted (exception ty tag values) h shape is of_shape of_array = absurd (cc (sym of_shape.1 ∙ of_array))

  -- The references of a traced object that stands for one of the table are those in its slots.
  pub traced_slots : (o : Object D) (h : HeapObject) → ¬ IsHost (Some o) → Stands layouts types names o h → IsTraced layouts types h → (by : StandsByShape layouts types names o h)
      → SameElements (reference_offsets layouts types h) (slot_offsets (shape_slots layouts by.stands.shape by.stands.count))
  traced_slots o h not_host is traced by =
      let shape : Shape = by.stands.shape in
      let fields = stands_fields o h not_host is in
      let declared : shape_at types h.ty ≡ Some shape = ap (shape_at types) by.stands.same_type ∙ by.stands.declared in
      subst (SameElements (reference_offsets layouts types h))
      (shape_offsets layouts types h shape by.stands.count declared fields (λ of_array. array_counted o h shape is by.of_shape of_array ∙ by.stands.counted))
      (followed_offsets layouts types h fields traced)

-- A reference slot whose offset is x.
pub record RefSlot (slots : List StorageSlot) (x : ℕ) : Type 0 where
  pub index : ℕ
  pub slot : StorageSlot
  pub slot_is : slice_get slots index ≡ Some slot
  pub is_reference : is_gc_storage slot.storage ≡ true
  pub at : slot.offset ≡ x

offsets-take : (s : StorageSlot) (slots : List StorageSlot) → is_gc_storage s.storage ≡ true → slot_offsets (s ∷ slots) ≡ s.offset ∷ slot_offsets slots
offsets-take s slots e = ap (λ b. map (λ (x : StorageSlot). x.offset) (cond b (s ∷ followed_slots slots) (followed_slots slots))) e

offsets-skip : (s : StorageSlot) (slots : List StorageSlot) → is_gc_storage s.storage ≡ false → slot_offsets (s ∷ slots) ≡ slot_offsets slots
offsets-skip s slots e = ap (λ b. map (λ (x : StorageSlot). x.offset) (cond b (s ∷ followed_slots slots) (followed_slots slots))) e

next_slot : (s : StorageSlot) (slots : List StorageSlot) (x : ℕ) → RefSlot slots x → RefSlot (s ∷ slots) x
next_slot s slots x r = record { index = suc r.index; slot = r.slot; slot_is = r.slot_is; is_reference = r.is_reference; at = r.at }

-- each offset that is followed is that of a reference slot
pub ref_slot : (slots : List StorageSlot) (x : ℕ) → In x (slot_offsets slots) → RefSlot slots x
ref_slot [] x i = elim i [ ]
ref_slot (s ∷ slots) x i = elim (is_gc_storage s.storage) as (λ b. is_gc_storage s.storage ≡ b → RefSlot (s ∷ slots) x) [
  | true ↦ λ e. elim (first_or_later s.offset x (slot_offsets slots) (subst (In x) (offsets-take s slots e) i)) [
    | inl first ↦ record { index = 0; slot = s; slot_is = refl; is_reference = e; at = sym first }
    | inr later ↦ next_slot s slots x (ref_slot slots x later)
  ]
  | false ↦ λ e. next_slot s slots x (ref_slot slots x (subst (In x) (offsets-skip s slots e) i))
] refl

-- each reference slot's offset is followed
pub slot_followed : (slots : List StorageSlot) (index : ℕ) (slot : StorageSlot) → slice_get slots index ≡ Some slot → is_gc_storage slot.storage ≡ true → In slot.offset (slot_offsets slots)
slot_followed [] index slot is followed = absurd (none-some slot is)
slot_followed (s ∷ slots) zero slot is followed =
    let same : s ≡ slot = grind (arith, is) in
    let e : is_gc_storage s.storage ≡ true = ap (λ (x : StorageSlot). is_gc_storage x.storage) same ∙ followed in
    subst (λ (x : StorageSlot). In x.offset (slot_offsets (s ∷ slots))) same (subst (In s.offset) (sym (offsets-take s slots e)) here)
slot_followed (s ∷ slots) (suc index) slot is followed =
    let later = slot_followed slots index slot is followed in
    elim (is_gc_storage s.storage) as (λ b. is_gc_storage s.storage ≡ b → In slot.offset (slot_offsets (s ∷ slots))) [
      | true ↦ λ e. subst (In slot.offset) (sym (offsets-take s slots e)) (there later)
      | false ↦ λ e. subst (In slot.offset) (sym (offsets-skip s slots e)) later
    ] refl
