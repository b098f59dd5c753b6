-- The trace word of a new struct or exception.
use Rattle.std.proofs.Common.{◌≡◌, ℕ, zero, suc, ◌+◌, ◌-◌, ◌*◌, ◌/◌, ◌%◌, ◌<◌, ◌≤◌, ◌^◌, Bool, true, false, cond, max, List, [], ◌∷◌, ◌++◌, drop, length, get_or, refl, sym, ap, ap₂, subst, ◌∙◌, inl, inr, arith}
use Rattle.std.proofs.Math.Logic.{◌⊎◌}
use Rattle.std.specs.Prelude.{if◌then◌else◌, All, bit_or}
use Rattle.std.specs.Int.{bit_at}
use Rattle.std.proofs.lemmas.Bool.{cases_eq, cases_lt, eq-eqb, ne_eqb, le-leb, lt-leb}
use Rattle.std.proofs.lemmas.List.Elements.{All-cons, All-nil}
use Rattle.std.proofs.lemmas.Nat.{or_mod, or_comm}
use Rattle.std.proofs.lemmas.Nat.Bits.{bit_at_lowest, bit_at-suc, bit_at-zero, bit_at_or, bit_at-pow_other, same_from_bits}
use Rattle.std.proofs.Math.Nat.{pow-le-pow_right}
use Rattle.gc_types.specs.declared.kind.Layouts.TheVariants.{Copying}
use Rattle.gc_types.specs.declared.layout.FieldLayout.{FieldLayout}
use Rattle.gc_types.specs.Layouts.{ref_offsets}
use Rattle.gc_types.specs.declared.layout.GcStructLayout.{GcStructLayout}
use Rattle.gc_refs.specs.Header.{Header, spare_bits, IsOfKind}
use Rattle.gc_refs.specs.declared.trace.InlineTraceInfo.{InlineTraceInfo}
use Rattle.gc_refs.specs.declared.trace.InlineTraceInfo.TheVariants.{Bitmap, Array, OutOfLine}
use Rattle.gc_refs.specs.Trace.{form_unit, form_of, trace_word, HasTraceWord}
use Rattle.gc_heap.specs.Objects.{first_offset, HasFields}
use Rattle.gc_heap.specs.Heap.{exn_or_struct, layout_kind, CanAllocate}
use Rattle.gc_heap.specs.References.{IsTraceable, bitmap_of, is_past_bitmap, bit_offsets, bitmap_offsets}
use Rattle.gc_heap.specs.Rules.{SpareFits, LayoutTraces, struct_spare}
use Rattle.gc_heap.proofs.SpacedLemmas.{refs-skip, refs-take}

-- the trace word of references at these offsets, where those before them gave these bits
abbrev pub traced_from : ℕ → List ℕ → ℕ
traced_from bits offsets = if is_past_bitmap offsets then 2 * form_unit else bit_or bits (bitmap_of offsets)

-- bits of two bitmaps together
pub or_below : (a b : ℕ) → a < form_unit → b < form_unit → bit_or a b < form_unit
or_below a b h k =
    let low_a : a % 2 ^ 23 ≡ a = omega arith in
    let low_b : b % 2 ^ 23 ≡ b = omega arith in
    let same : bit_or a b % 2 ^ 23 ≡ bit_or a b = or_mod a b 23 ∙ ap₂ bit_or low_a low_b in
    omega arith

pub pow_below_form : (k : ℕ) → k ≤ 22 → 2 ^ k < form_unit
pow_below_form k h = let most = pow-le-pow_right {n = 2} (omega arith) {i = k} {j = 22} h in omega arith

-- the bit of an offset that a bitmap can name
pub bit_below_form : (offset : ℕ) → offset ≤ 100 → 2 ^ ((offset - 12) / 4) < form_unit
bit_below_form offset h = pow_below_form ((offset - 12) / 4) (omega arith)

-- the order of three bitmaps is free
or_assoc : (a b d : ℕ) → bit_or a (bit_or b d) ≡ bit_or (bit_or a b) d
or_assoc a b d = same_from_bits _ _ (λ i.
    let left : bit_at (bit_or a (bit_or b d)) i ≡ max (bit_at a i) (max (bit_at b i) (bit_at d i)) = bit_at_or a (bit_or b d) i ∙ ap (max (bit_at a i)) (bit_at_or b d i) in
    let right : bit_at (bit_or (bit_or a b) d) i ≡ max (max (bit_at a i) (bit_at b i)) (bit_at d i) = bit_at_or (bit_or a b) d i ∙ ap (λ n. max n (bit_at d i)) (bit_at_or a b i) in
    left ∙ max_turned (bit_at a i) (bit_at b i) (bit_at d i) ∙ sym right)
  where
    max_turned : (x y z : ℕ) → max x (max y z) ≡ max (max x y) z
    max_turned x y z = omega arith

-- a reference past the bitmap
pub traced-past : (bits offset : ℕ) (rest : List ℕ) → 100 < offset → traced_from bits (offset ∷ rest) ≡ 2 * form_unit
traced-past bits offset rest h =
    ap (λ b. cond (cond b (is_past_bitmap rest) true) (2 * form_unit) (bit_or bits (bitmap_of (offset ∷ rest)))) (lt-leb offset 100 h)

-- a reference in the bitmap
pub traced-step : (bits offset : ℕ) (rest : List ℕ) → offset ≤ 100 → traced_from bits (offset ∷ rest) ≡ traced_from (bit_or bits (2 ^ ((offset - 12) / 4))) rest
traced-step bits offset rest h =
    ap (λ b. cond (cond b (is_past_bitmap rest) true) (2 * form_unit) (bit_or bits (bitmap_of (offset ∷ rest)))) (le-leb offset 100 h)
    ∙ ap (cond (is_past_bitmap rest) (2 * form_unit)) (or_assoc bits (2 ^ ((offset - 12) / 4)) (bitmap_of rest))

All-head : {X : Type 0} (P : X → Type 0) (x : X) (xs : List X) → All P (x ∷ xs) → P x
All-head P x xs all = all 0 x (omega arith)

All-tail : {X : Type 0} (P : X → Type 0) (x : X) (xs : List X) → All P (x ∷ xs) → All P xs
All-tail P x xs all = λ k d h. all (suc k) d (omega arith)

-- what holds of all offsets of references holds of each field that is one
pub refs_all : (P : ℕ → Type 0) (fs : List FieldLayout) → All P (ref_offsets fs) → (k : ℕ) (d : FieldLayout) → k < length fs → (get_or fs k d).is_gc_ref ≡ true → P (get_or fs k d).offset
refs_all P [] all k d h e = absurd (omega arith)
refs_all P (f ∷ fs) all zero d h e = All-head P f.offset (ref_offsets fs) (subst (All P) (refs-take f fs e) all)
refs_all P (f ∷ fs) all (suc k) d h e = elim f.is_gc_ref as (λ b. f.is_gc_ref ≡ b → P (get_or fs k d).offset) [
  | true ↦ λ is. refs_all P fs (All-tail P f.offset (ref_offsets fs) (subst (All P) (refs-take f fs is) all)) k d (omega arith) e
  | false ↦ λ is. refs_all P fs (subst (All P) (refs-skip f fs is) all) k d (omega arith) e
] refl

-- a bitmap's offsets are those of its bits
bits_all : (Q : ℕ → Type 0) (n from bits : ℕ) → ((s : ℕ) → s < n → bit_at bits s ≡ 1 → Q (from + 4 * s)) → All Q (bit_offsets from n bits)
bits_all Q zero from bits each = All-nil Q
bits_all Q (suc n) from bits each =
    let rest : All Q (bit_offsets (from + 4) n (bits / 2)) =
    bits_all Q n (from + 4) (bits / 2) (λ s h is. let at : from + 4 * suc s ≡ from + 4 + 4 * s = omega arith in subst Q at (each (suc s) (omega arith) (bit_at-suc bits s ∙ is))) in
    elim (cases_eq (bits % 2) 1) [
      | inl one ↦
          let at : from + 4 * 0 ≡ from = omega arith in
          subst (λ b. All Q (cond b (from ∷ []) [] ++ bit_offsets (from + 4) n (bits / 2))) (sym (eq-eqb (bits % 2) 1 one))
          (All-cons Q from (bit_offsets (from + 4) n (bits / 2)) (subst Q at (each 0 (omega arith) (bit_at_lowest bits ∙ one))) rest)
      | inr other ↦
          subst (λ b. All Q (cond b (from ∷ []) [] ++ bit_offsets (from + 4) n (bits / 2))) (sym (ne_eqb (bits % 2) 1 other)) rest
    ]

-- Offsets that are traceable, and that a bitmap can name, are those that it names.
named_inside : (first size : ℕ) (offsets : List ℕ) → 12 ≤ first → All (IsTraceable first size) offsets → (s : ℕ) → bit_at (bitmap_of offsets) s ≡ 1 → 12 + 4 * s + 4 ≤ size
named_inside first size [] from all s is = absurd (omega (arith, bit_at-zero s))
named_inside first size (o ∷ os) from all s is =
    let one = All-head (IsTraceable first size) o os all in
    elim (cases_eq s ((o - 12) / 4)) [
      | inl here ↦ omega (arith, one.aligned, one.from, one.to)
      | inr other ↦
          let both = bit_at_or (2 ^ ((o - 12) / 4)) (bitmap_of os) s in
          let none = bit_at-pow_other ((o - 12) / 4) s other in
          named_inside first size os from (All-tail (IsTraceable first size) o os all) s (omega arith)
    ]

bitmap_below : (offsets : List ℕ) → is_past_bitmap offsets ≡ false → bitmap_of offsets < form_unit
bitmap_below [] e = omega arith
bitmap_below (o ∷ os) e = elim (cases_lt 100 o) [
  | inl past ↦ absurd (true_not_false (sym (ap (λ b. cond b (is_past_bitmap os) true) (lt-leb o 100 past)) ∙ e))
  | inr within ↦
      let le : o ≤ 100 = omega arith in
      or_below (2 ^ ((o - 12) / 4)) (bitmap_of os) (bit_below_form o le)
      (bitmap_below os (sym (ap (λ b. cond b (is_past_bitmap os) true) (le-leb o 100 le)) ∙ e))
]
  where
    true_not_false : true ≡ false → ⊥
    true_not_false e = cc

-- What the trace word of a struct or exception is.
pub record StructTraces (size word : ℕ) : Type 0 where
  pub small : word < 4 * form_unit
  pub word_is : ((form_of word ≡ 0) × All (λ offset. offset + 4 ≤ size) (bitmap_offsets word)) ⊎ (form_of word ≡ 2)

-- the trace word of traceable references names nothing outside
pub struct_traces : (first size : ℕ) (offsets : List ℕ) → 12 ≤ first → All (IsTraceable first size) offsets → StructTraces size (struct_spare Copying offsets)
struct_traces first size offsets from all = elim (is_past_bitmap offsets) as (λ b. is_past_bitmap offsets ≡ b → StructTraces size (cond b (2 * form_unit) (bitmap_of offsets))) [
  | true ↦ λ e. record { small = omega arith; word_is = inr refl }
  | false ↦ λ e.
      let below = bitmap_below offsets e in
      record {
        small = omega arith;
        word_is = inl (omega arith, bits_all (λ offset. offset + 4 ≤ size) 23 12 (bitmap_of offsets) (λ s h is. named_inside first size offsets from all s is));
      }
] refl

-- One field after another, as the trace word is made.
pub record TracedAt (bits index : ℕ) (fields : List FieldLayout) : Type 0 where
  pub word : traced_from bits (ref_offsets (drop index fields)) ≡ struct_spare Copying (ref_offsets fields)
  pub small : bits < form_unit

pub traced_at_first : (fields : List FieldLayout) → TracedAt 0 0 fields
traced_at_first fields = record { word = refl; small = omega arith }

pub traced_skip : (bits index : ℕ) (fields : List FieldLayout) (f : FieldLayout) → drop index fields ≡ f ∷ drop (index + 1) fields → f.is_gc_ref ≡ false → TracedAt bits index fields → TracedAt bits (index + 1) fields
traced_skip bits index fields f step is t = record {
  word = sym (ap (λ fs. traced_from bits (ref_offsets fs)) step ∙ ap (traced_from bits) (refs-skip f (drop (index + 1) fields) is)) ∙ t.word;
  small = t.small;
}

pub traced_take : (bits now index : ℕ) (fields : List FieldLayout) (f : FieldLayout) → drop index fields ≡ f ∷ drop (index + 1) fields → f.is_gc_ref ≡ true → f.offset ≤ 100
    → now ≡ bit_or bits (2 ^ ((f.offset - 12) / 4)) → now < form_unit → TracedAt bits index fields → TracedAt now (index + 1) fields
traced_take bits now index fields f step is within made below t = record {
  word = ap (λ n. traced_from n (ref_offsets (drop (index + 1) fields))) made
      ∙ sym (ap (λ fs. traced_from bits (ref_offsets fs)) step ∙ ap (traced_from bits) (refs-take f (drop (index + 1) fields) is) ∙ traced-step bits f.offset (ref_offsets (drop (index + 1) fields)) within)
      ∙ t.word;
  small = below;
}

pub traced_past : (bits index : ℕ) (fields : List FieldLayout) (f : FieldLayout) → drop index fields ≡ f ∷ drop (index + 1) fields → f.is_gc_ref ≡ true → 100 < f.offset
    → TracedAt bits index fields → 2 * form_unit ≡ struct_spare Copying (ref_offsets fields)
traced_past bits index fields f step is past t =
    sym (ap (λ fs. traced_from bits (ref_offsets fs)) step ∙ ap (traced_from bits) (refs-take f (drop (index + 1) fields) is) ∙ traced-past bits f.offset (ref_offsets (drop (index + 1) fields)) past) ∙ t.word

pub traced_end : (bits : ℕ) (fields : List FieldLayout) (index : ℕ) → drop index fields ≡ [] → TracedAt bits index fields → bits ≡ struct_spare Copying (ref_offsets fields)
traced_end bits fields index none t =
    sym (ap (λ fs. traced_from bits (ref_offsets fs)) none ∙ or_zero bits) ∙ t.word
  where
    or_zero : (n : ℕ) → bit_or n 0 ≡ n
    or_zero n = or_comm n 0

-- the references of a layout lie where a bitmap can begin
pub refs_from : (layout : GcStructLayout) → LayoutTraces Copying layout (first_offset Copying (layout_kind layout))
    → All (λ (field : FieldLayout). field.is_gc_ref ≡ true → 12 ≤ field.offset) layout.fields
refs_from layout traces = λ k d h is.
    let r = refs_all (IsTraceable (first_offset Copying (layout_kind layout)) layout.size) layout.fields traces k d h is in
    let least = first_least layout.is_exception in
    omega (arith, r.from)
  where
    first_least : (is_exception : Bool) → 12 ≤ first_offset Copying (exn_or_struct is_exception)
    first_least true = omega arith
    first_least false = omega arith

kind_traces : (is_exception : Bool) (size word : ℕ) → StructTraces size word → SpareFits Copying (exn_or_struct is_exception) size word
kind_traces true size word t = (t.small, t.word_is)
kind_traces false size word t = (t.small, t.word_is)

pub kind_fields : (is_exception : Bool) → HasFields (exn_or_struct is_exception)
kind_fields true = tt
kind_fields false = tt

first_from : (is_exception : Bool) → 12 ≤ first_offset Copying (exn_or_struct is_exception)
first_from true = omega arith
first_from false = omega arith

-- an object of a layout may be allocated with its trace word
pub can_allocate_struct : (layout : GcStructLayout) (h : Header) → first_offset Copying (layout_kind layout) ≤ layout.size
    → LayoutTraces Copying layout (first_offset Copying (layout_kind layout)) → IsOfKind (layout_kind layout) h.kind_word
    → h.kind_word % spare_bits ≡ struct_spare Copying (ref_offsets layout.fields) → CanAllocate Copying h layout.size
can_allocate_struct layout h least traces kind spare =
    let t = struct_traces (first_offset Copying (layout_kind layout)) layout.size (ref_offsets layout.fields) (first_from layout.is_exception) traces in
    record {
      kind = layout_kind layout;
      is_kind = kind;
      has_fields = kind_fields layout.is_exception;
      least = least;
      spare = subst (SpareFits Copying (layout_kind layout) layout.size) (sym spare) (kind_traces layout.is_exception layout.size (struct_spare Copying (ref_offsets layout.fields)) t);
    }

-- a trace word fits the spare bits
pub trace_word_small : (info : InlineTraceInfo) → HasTraceWord info → trace_word info < spare_bits
trace_word_small (Bitmap bits) fits = omega arith
trace_word_small (Array true) fits = omega arith
trace_word_small (Array false) fits = omega arith
trace_word_small OutOfLine fits = omega arith
