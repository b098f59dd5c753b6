-- Offsets of references that lie one behind the other.
use Rattle.std.proofs.Common.{◌≡◌, ℕ, zero, suc, ◌+◌, ◌-◌, ◌*◌, ◌/◌, ◌%◌, ◌≤◌, ◌⊎◌, inl, inr, true, false, nat_eq, cond, if◌then◌else◌, List, [], ◌∷◌, ◌++◌, map, filter, refl, sym, ap, subst, ◌∙◌, arith}
use Rattle.std.proofs.lemmas.Bool.{cases_eq}
use Rattle.gc_types.specs.declared.value.FieldType.{FieldType}
use Rattle.gc_types.specs.declared.value.StorageType.{StorageType}
use Rattle.gc_types.specs.declared.value.StorageType.TheVariants as storage
use Rattle.gc_types.specs.declared.value.ValType.{ValType}
use Rattle.gc_types.specs.declared.value.ValType.TheVariants as val
use Rattle.gc_types.specs.declared.layout.FieldLayout.{FieldLayout}
use Rattle.gc_types.specs.Layouts.{ref_offsets, field_layouts, fields_end, field_offset, is_gc_storage, storage_width}
use Rattle.gc_memory.specs.Lists.{In, here, there}
use Rattle.gc_memory.proofs.ListLemmas.{first_or_later}
use Rattle.gc_heap.specs.References.{Spaced, word_offsets, bit_offsets}

-- offsets that are spaced lie in their range
pub Spaced-in : (lo hi : ℕ) (os : List ℕ) (o : ℕ) → Spaced lo hi os → In o os → (lo ≤ o) × (o + 4 ≤ hi)
Spaced-in lo hi [] o s i = elim i [ ]
Spaced-in lo hi (_ ∷ os) o s here = (s.0, s.1)
Spaced-in lo hi (x ∷ os) o s (there i) =
    let r = Spaced-in (x + 4) hi os o s.2 i in
    (omega (arith, r.0, s.0), r.1)

-- two of them are one, or apart
pub Spaced-apart : (lo hi : ℕ) (os : List ℕ) (o o' : ℕ) → Spaced lo hi os → In o os → In o' os → (o ≡ o') ⊎ ((o + 4 ≤ o') ⊎ (o' + 4 ≤ o))
Spaced-apart lo hi [] o o' s i j = elim i [ ]
Spaced-apart lo hi (_ ∷ os) _ _ s here here = inl refl
Spaced-apart lo hi (x ∷ os) _ o' s here (there j) = inr (inl (Spaced-in (x + 4) hi os o' s.2 j).0)
Spaced-apart lo hi (x ∷ os) o _ s (there i) here = inr (inr (Spaced-in (x + 4) hi os o s.2 i).0)
Spaced-apart lo hi (x ∷ os) o o' s (there i) (there j) = Spaced-apart (x + 4) hi os o o' s.2 i j

-- spaced offsets in a wider range
pub spaced_wider : (lo lo' hi hi' : ℕ) (os : List ℕ) → lo' ≤ lo → hi ≤ hi' → Spaced lo hi os → Spaced lo' hi' os
spaced_wider lo lo' hi hi' [] below above s = tt
spaced_wider lo lo' hi hi' (o ∷ os) below above s = (omega (arith, s.0), omega (arith, s.1), spaced_wider (o + 4) (o + 4) hi hi' os (omega arith) above s.2)

-- no bits name no offsets
pub no_bits : (from n : ℕ) → bit_offsets from n 0 ≡ []
no_bits from zero = refl
no_bits from (suc n) = no_bits (from + 4) n

-- where a bit is set the first offset is its
pub bit_set : (from n bits : ℕ) → bits % 2 ≡ 1 → bit_offsets from (suc n) bits ≡ from ∷ bit_offsets (from + 4) n (bits / 2)
bit_set from n bits e = ap (λ (b : ℕ). (if nat_eq b 1 then from ∷ [] else []) ++ bit_offsets (from + 4) n (bits / 2)) e

pub bit_clear : (from n bits : ℕ) → bits % 2 ≡ 0 → bit_offsets from (suc n) bits ≡ bit_offsets (from + 4) n (bits / 2)
bit_clear from n bits e = ap (λ (b : ℕ). (if nat_eq b 1 then from ∷ [] else []) ++ bit_offsets (from + 4) n (bits / 2)) e

pub bit_is_0 : (bits : ℕ) → (bits % 2 ≡ 1 → ⊥) → bits % 2 ≡ 0
bit_is_0 bits ne = omega arith

-- the offsets that a bitmap names, where all lie inside
pub spaced_bits : (n from bits hi : ℕ) → ((o : ℕ) → In o (bit_offsets from n bits) → o + 4 ≤ hi) → Spaced from hi (bit_offsets from n bits)
spaced_bits zero from bits hi inside = tt
spaced_bits (suc n) from bits hi inside = elim (cases_eq (bits % 2) 1) [
  | inl one ↦
      let set = bit_set from n bits one in
      let each : (o : ℕ) → In o (from ∷ bit_offsets (from + 4) n (bits / 2)) → o + 4 ≤ hi = λ o i. inside o (subst (In o) (sym set) i) in
      subst (Spaced from hi) (sym set) (omega arith, each from here, spaced_bits n (from + 4) (bits / 2) hi (λ o i. each o (there i)))
  | inr ne ↦
      let clear = bit_clear from n bits (bit_is_0 bits ne) in
      subst (Spaced from hi) (sym clear) (spaced_wider (from + 4) from hi hi (bit_offsets (from + 4) n (bits / 2)) (omega arith) (omega arith)
      (spaced_bits n (from + 4) (bits / 2) hi (λ o i. inside o (subst (In o) (sym clear) i))))
]

-- the elements of an array
pub spaced_words : (n from hi : ℕ) → from + n * 4 ≤ hi → Spaced from hi (word_offsets from n)
spaced_words zero from hi inside = tt
spaced_words (suc n) from hi inside = (omega arith, omega arith, spaced_words n (from + 4) hi (omega arith))

value_ref_width : (ty : ValType) → is_gc_storage (storage.ValType ty) ≡ true → storage_width (storage.ValType ty) ≡ 4
value_ref_width val.I32 e = refl
value_ref_width val.I64 e = absurd (cc)
value_ref_width val.F32 e = refl
value_ref_width val.F64 e = absurd (cc)
value_ref_width val.V128 e = absurd (cc)
value_ref_width (val.Ref ty) e = refl

-- a field that a collection follows is a word
pub ref_width : (ty : StorageType) → is_gc_storage ty ≡ true → storage_width ty ≡ 4
ref_width storage.I8 e = absurd (cc)
ref_width storage.I16 e = absurd (cc)
ref_width (storage.ValType ty) e = value_ref_width ty e

round_above : (n w : ℕ) → (w ≡ 1) ⊎ ((w ≡ 2) ⊎ ((w ≡ 4) ⊎ ((w ≡ 8) ⊎ (w ≡ 16)))) → n ≤ (n + (w - 1)) / w * w
round_above n w (inl e) = subst (λ (v : ℕ). n ≤ (n + (v - 1)) / v * v) (sym e) (omega arith)
round_above n w (inr (inl e)) = subst (λ (v : ℕ). n ≤ (n + (v - 1)) / v * v) (sym e) (omega arith)
round_above n w (inr (inr (inl e))) = subst (λ (v : ℕ). n ≤ (n + (v - 1)) / v * v) (sym e) (omega arith)
round_above n w (inr (inr (inr (inl e)))) = subst (λ (v : ℕ). n ≤ (n + (v - 1)) / v * v) (sym e) (omega arith)
round_above n w (inr (inr (inr (inr e)))) = subst (λ (v : ℕ). n ≤ (n + (v - 1)) / v * v) (sym e) (omega arith)

value_widths : (ty : ValType) → (storage_width (storage.ValType ty) ≡ 1) ⊎ ((storage_width (storage.ValType ty) ≡ 2) ⊎ ((storage_width (storage.ValType ty) ≡ 4) ⊎ ((storage_width (storage.ValType ty) ≡ 8) ⊎ (storage_width (storage.ValType ty) ≡ 16))))
value_widths val.I32 = inr (inr (inl refl))
value_widths val.I64 = inr (inr (inr (inl refl)))
value_widths val.F32 = inr (inr (inl refl))
value_widths val.F64 = inr (inr (inr (inl refl)))
value_widths val.V128 = inr (inr (inr (inr refl)))
value_widths (val.Ref ty) = inr (inr (inl refl))

widths : (ty : StorageType) → (storage_width ty ≡ 1) ⊎ ((storage_width ty ≡ 2) ⊎ ((storage_width ty ≡ 4) ⊎ ((storage_width ty ≡ 8) ⊎ (storage_width ty ≡ 16))))
widths storage.I8 = inl refl
widths storage.I16 = inr (inl refl)
widths (storage.ValType ty) = value_widths ty

-- the end of fields lies behind their beginning
pub fields_from : (p : ℕ) (fields : List FieldType) → p ≤ fields_end p fields
fields_from p [] = omega arith
fields_from p (f ∷ fs) =
    let first : p ≤ field_offset p f = round_above p (storage_width f.element_type) (widths f.element_type) in
    omega (arith, fields_from (field_offset p f + storage_width f.element_type) fs, first)

-- the offsets of references, field by field
pub refs-skip : (f : FieldLayout) (fs : List FieldLayout) → f.is_gc_ref ≡ false → ref_offsets (f ∷ fs) ≡ ref_offsets fs
refs-skip f fs e = ap (λ b. map (λ (p : FieldLayout). p.offset) (cond b (f ∷ filter (λ (p : FieldLayout). p.is_gc_ref) fs) (filter (λ (p : FieldLayout). p.is_gc_ref) fs))) e

pub refs-take : (f : FieldLayout) (fs : List FieldLayout) → f.is_gc_ref ≡ true → ref_offsets (f ∷ fs) ≡ f.offset ∷ ref_offsets fs
refs-take f fs e = ap (λ b. map (λ (p : FieldLayout). p.offset) (cond b (f ∷ filter (λ (p : FieldLayout). p.is_gc_ref) fs) (filter (λ (p : FieldLayout). p.is_gc_ref) fs))) e

-- the references of fields that are laid out one behind the other
pub spaced_fields : (p : ℕ) (fields : List FieldType) → Spaced p (fields_end p fields) (ref_offsets (field_layouts p fields))
spaced_fields p [] = tt
spaced_fields p (f ∷ fs) =
    let at : ℕ = field_offset p f in
    let wide : ℕ = storage_width f.element_type in
    let hi : ℕ = fields_end (at + wide) fs in
    let first : p ≤ at = round_above p wide (widths f.element_type) in
    let to : at + wide ≤ hi = fields_from (at + wide) fs in
    let rest : Spaced (at + wide) hi (ref_offsets (field_layouts (at + wide) fs)) = spaced_fields (at + wide) fs in
    elim (is_gc_storage f.element_type) as (λ b. is_gc_storage f.element_type ≡ b → Spaced p hi (ref_offsets (field_layouts p (f ∷ fs)))) [
      | true ↦ λ is.
          let four : wide ≡ 4 = ref_width f.element_type is in
          subst (Spaced p hi) (sym (refs-take _ (field_layouts (at + wide) fs) is))
          (omega arith, omega arith, spaced_wider (at + wide) (at + 4) hi hi (ref_offsets (field_layouts (at + wide) fs)) (omega arith) (omega arith) rest)
      | false ↦ λ is.
          subst (Spaced p hi) (sym (refs-skip _ (field_layouts (at + wide) fs) is))
          (spaced_wider (at + wide) p hi hi (ref_offsets (field_layouts (at + wide) fs)) (omega arith) (omega arith) rest)
    ] refl

-- offsets of references are multiples of 4
pub aligned_bits : (n from bits x : ℕ) → from % 4 ≡ 0 → In x (bit_offsets from n bits) → x % 4 ≡ 0
aligned_bits zero from bits x aligned i = elim i [ ]
aligned_bits (suc n) from bits x aligned i = elim (cases_eq (bits % 2) 1) [
  | inl one ↦ elim (first_or_later from x (bit_offsets (from + 4) n (bits / 2)) (subst (In x) (bit_set from n bits one) i)) [
    | inl first ↦ ap (λ y. y % 4) first ∙ aligned
    | inr later ↦ aligned_bits n (from + 4) (bits / 2) x (omega arith) later
  ]
  | inr ne ↦ aligned_bits n (from + 4) (bits / 2) x (omega arith) (subst (In x) (bit_clear from n bits (bit_is_0 bits ne)) i)
]

pub aligned_words : (n from x : ℕ) → from % 4 ≡ 0 → In x (word_offsets from n) → x % 4 ≡ 0
aligned_words zero from x aligned i = elim i [ ]
aligned_words (suc n) from x aligned i = elim (first_or_later from x (word_offsets (from + 4) n) i) [
  | inl first ↦ ap (λ y. y % 4) first ∙ aligned
  | inr later ↦ aligned_words n (from + 4) x (omega arith) later
]

pub aligned_fields : (p : ℕ) (fields : List FieldType) (x : ℕ) → In x (ref_offsets (field_layouts p fields)) → x % 4 ≡ 0
aligned_fields p [] x i = elim i [ ]
aligned_fields p (f ∷ fs) x i =
    let at : ℕ = field_offset p f in
    let wide : ℕ = storage_width f.element_type in
    elim (is_gc_storage f.element_type) as (λ b. is_gc_storage f.element_type ≡ b → x % 4 ≡ 0) [
      | true ↦ λ is. elim (first_or_later at x (ref_offsets (field_layouts (at + wide) fs)) (subst (In x) (refs-take _ (field_layouts (at + wide) fs) is) i)) [
        | inl first ↦
            let four : wide ≡ 4 = ref_width f.element_type is in
            let here_at : at ≡ (p + (4 - 1)) / 4 * 4 = ap (λ w. (p + (w - 1)) / w * w) four in
            omega arith
        | inr later ↦ aligned_fields (at + wide) fs x later
      ]
      | false ↦ λ is. aligned_fields (at + wide) fs x (subst (In x) (refs-skip _ (field_layouts (at + wide) fs) is) i)
    ] refl
