-- A collection follows the references of a traced object that its type tells.
use Rattle.std.proofs.Common.{◌≡◌, ℕ, zero, suc, ◌+◌, ◌-◌, ◌*◌, ◌/◌, ◌%◌, ◌<◌, ◌≤◌, ◌^◌, Bool, true, false, cond, nat_eq, List, [], ◌∷◌, map, Some, None, Option, inl, inr, Contains, refl, sym, ap, ap₂, ◌∙◌, subst, arith}
use Rattle.std.specs.Prelude.{bit_or}
use Rattle.std.specs.Int.{bit_at}
use Rattle.std.specs.List.{slice_get}
use Rattle.std.specs.Option.{option_map}
use Rattle.std.proofs.lemmas.Bool.{cases_eq, cases_lt, le-leb, lt-leb}
use Rattle.std.proofs.lemmas.Nat.{or_mod}
use Rattle.std.proofs.lemmas.Nat.Bits.{bit_at_lowest, bit_at-suc, bit_at-zero, bit_at_or, bit_at-pow_same, bit_at-pow_other, bit_at-lt}
use Rattle.std.proofs.lemmas.Option.{none-some}
use Rattle.std.proofs.Math.Nat.{pow-le-pow_right}
use Rattle.gc_types.specs.declared.kind.Layouts.{Layouts}
use Rattle.gc_types.specs.declared.kind.Layouts.TheVariants.{Null, Counting, Copying}
use Rattle.gc_types.specs.declared.kind.VMGcKind.{VMGcKind}
use Rattle.gc_types.specs.declared.kind.VMGcKind.TheVariants.{ExternRef, AnyRef, EqRef, StructRef, ArrayRef, ExnRef}
use Rattle.gc_types.specs.declared.value.FieldType.{FieldType}
use Rattle.gc_types.specs.declared.layout.FieldLayout.{FieldLayout}
use Rattle.gc_types.specs.declared.layout.GcStructLayout.{GcStructLayout}
use Rattle.gc_types.specs.declared.layout.GcArrayLayout.{GcArrayLayout}
use Rattle.gc_types.specs.declared.layout.TraceInfo.{TraceInfo}
use Rattle.gc_types.specs.declared.layout.TraceInfo.TheVariants as trace
use Rattle.gc_types.specs.Declarations.{Shape, struct_of, array_of, exn_of, func_of, Declaration, constant_field, shape_elem, declaration_elem}
use Rattle.gc_types.specs.Layouts.{field_layouts, ref_offsets, array_layout, shape_layout, shape_trace, declaration_layout, declaration_trace}
use Rattle.gc_refs.specs.Trace.{form_unit, form_of}
use Rattle.gc_memory.specs.Lists.{In, here, there}
use Rattle.gc_view.specs.Heaps.{HeapObject}
use Rattle.gc_heap.specs.Extents.{HasFields}
use Rattle.gc_heap.specs.References.{bit_offsets, bitmap_of, bitmap_offsets, is_past_bitmap, element_offsets, info_offsets, typed_offsets, traced_offsets, reference_offsets}
use Rattle.gc_heap.proofs.SpacedLemmas.{bit_set, bit_clear, bit_is_0, Spaced-in, spaced_fields, aligned_fields}
use Rattle.gc_memory.proofs.ListLemmas.{first_or_later}
use Rattle.gc_heap.proofs.ReferenceLemmas.{content_by_form, typed_is}
use Rattle.gc_owner.specs.Tracing.{IsTracedStruct, IsTracedArray, IsTraced}

-- A bit that names an offset.
record Names (from n bits x : ℕ) : Type 0 where
  bit : ℕ
  below : bit < n
  at : x ≡ from + 4 * bit
  is_set : bit_at bits bit ≡ 1

later_bit : (from n bits x : ℕ) → Names (from + 4) n (bits / 2) x → Names from (suc n) bits x
later_bit from n bits x r = record {
  bit = suc r.bit;
  below = omega (arith, r.below);
  at = omega (arith, r.at);
  is_set = bit_at-suc bits r.bit ∙ r.is_set;
}

named : (n from bits x : ℕ) → In x (bit_offsets from n bits) → Names from n bits x
named zero from bits x i = elim i [ ]
named (suc n) from bits x i = elim (cases_eq (bits % 2) 1) [
  | inl odd ↦ elim (first_or_later from x (bit_offsets (from + 4) n (bits / 2)) (subst (In x) (bit_set from n bits odd) i)) [
    | inl first ↦ record { bit = 0; below = omega arith; at = omega (arith, first); is_set = bit_at_lowest bits ∙ odd }
    | inr later ↦ later_bit from n bits x (named n (from + 4) (bits / 2) x later)
  ]
  | inr even ↦ later_bit from n bits x (named n (from + 4) (bits / 2) x (subst (In x) (bit_clear from n bits (bit_is_0 bits even)) i))
]

names : (n from bits s : ℕ) → s < n → bit_at bits s ≡ 1 → In (from + 4 * s) (bit_offsets from n bits)
names zero from bits s below is = absurd (omega arith)
names (suc n) from bits zero below is =
    let at : from ≡ from + 4 * 0 = omega arith in
    subst (λ x. In x (bit_offsets from (suc n) bits)) at (subst (In from) (sym (bit_set from n bits (sym (bit_at_lowest bits) ∙ is))) here)
names (suc n) from bits (suc s) below is =
    let at : from + 4 + 4 * s ≡ from + 4 * suc s = omega arith in
    let later : In (from + 4 * suc s) (bit_offsets (from + 4) n (bits / 2)) =
    subst (λ x. In x (bit_offsets (from + 4) n (bits / 2))) at (names n (from + 4) (bits / 2) s (omega arith) (sym (bit_at-suc bits s) ∙ is)) in
    elim (cases_eq (bits % 2) 1) [
      | inl odd ↦ subst (In (from + 4 * suc s)) (sym (bit_set from n bits odd)) (there later)
      | inr even ↦ subst (In (from + 4 * suc s)) (sym (bit_clear from n bits (bit_is_0 bits even))) later
    ]

-- the bits of a bitmap are those of its offsets
bit_names : (offsets : List ℕ) (s : ℕ) → bit_at (bitmap_of offsets) s ≡ 1 → (o : ℕ) × (In o offsets × (s ≡ (o - 12) / 4))
bit_names [] s is = absurd (omega (arith, bit_at-zero s))
bit_names (o ∷ os) s is = elim (cases_eq s ((o - 12) / 4)) [
  | inl same ↦ (o, (here, same))
  | inr other ↦
      let both = bit_at_or (2 ^ ((o - 12) / 4)) (bitmap_of os) s in
      let none = bit_at-pow_other ((o - 12) / 4) s other in
      let rest = bit_names os s (omega arith) in
      (rest.0, (there rest.1.0, rest.1.1))
]

bit_is_set : (offsets : List ℕ) (o : ℕ) → In o offsets → bit_at (bitmap_of offsets) ((o - 12) / 4) ≡ 1
bit_is_set [] o i = elim i [ ]
bit_is_set (o ∷ os) _ here =
    let s : ℕ = (o - 12) / 4 in
    let both = bit_at_or (2 ^ s) (bitmap_of os) s in
    let one = bit_at-pow_same s in
    let most = bit_at-lt (bitmap_of os) s in
    omega arith
bit_is_set (x ∷ os) o (there i) =
    let s : ℕ = (o - 12) / 4 in
    let both = bit_at_or (2 ^ ((x - 12) / 4)) (bitmap_of os) s in
    let most = bit_at-lt (2 ^ ((x - 12) / 4)) s in
    let rest = bit_is_set os o i in
    omega arith

-- an offset that is not past what a bitmap can name
first_within : (o : ℕ) (os : List ℕ) → is_past_bitmap (o ∷ os) ≡ false → (o ≤ 100) × (is_past_bitmap os ≡ false)
first_within o os e = elim (cases_lt 100 o) [
  | inl past ↦ absurd (differ (sym (ap (λ b. cond b (is_past_bitmap os) true) (lt-leb o 100 past)) ∙ e))
  | inr within ↦ let le : o ≤ 100 = omega arith in (le, sym (ap (λ b. cond b (is_past_bitmap os) true) (le-leb o 100 le)) ∙ e)
]
  where
    differ : true ≡ false → ⊥
    differ e = cc

within_bitmap : (offsets : List ℕ) → is_past_bitmap offsets ≡ false → (o : ℕ) → In o offsets → o ≤ 100
within_bitmap [] e o i = elim i [ ]
within_bitmap (o ∷ os) e _ here = (first_within o os e).0
within_bitmap (x ∷ os) e o (there i) = within_bitmap os (first_within x os e).1 o i

bitmap_below : (offsets : List ℕ) → is_past_bitmap offsets ≡ false → bitmap_of offsets < form_unit
bitmap_below [] e = omega arith
bitmap_below (o ∷ os) e =
    let bit : ℕ = 2 ^ ((o - 12) / 4) in
    let first = first_within o os e in
    let rest = bitmap_below os first.1 in
    let most = pow-le-pow_right {n = 2} (omega arith) {i = (o - 12) / 4} {j = 22} (omega (arith, first.0)) in
    let low_bit : bit % 2 ^ 23 ≡ bit = omega arith in
    let low_rest : bitmap_of os % 2 ^ 23 ≡ bitmap_of os = omega arith in
    let same : bit_or bit (bitmap_of os) % 2 ^ 23 ≡ bit_or bit (bitmap_of os) = or_mod bit (bitmap_of os) 23 ∙ ap₂ bit_or low_bit low_rest in
    omega arith

-- Two lists have the same elements.
pub record SameElements (xs ys : List ℕ) : Type 0 where
  pub there : (x : ℕ) → In x xs → In x ys
  pub back : (x : ℕ) → In x ys → In x xs

same_elements : (xs ys : List ℕ) → xs ≡ ys → SameElements xs ys
same_elements xs ys e = record { there = λ x. subst (In x) e; back = λ x. subst (In x) (sym e) }

-- a bitmap names the offsets that it was made of
bitmap_same : (offsets : List ℕ) → is_past_bitmap offsets ≡ false → ((o : ℕ) → In o offsets → (o % 4 ≡ 0) × (12 ≤ o)) → SameElements (bitmap_offsets (bitmap_of offsets)) offsets
bitmap_same offsets within aligned = record {
  there = λ x i.
      let r = named 23 12 (bitmap_of offsets) x i in
      let o = bit_names offsets r.bit r.is_set in
      let is = aligned o.0 o.1.0 in
      let same : o.0 ≡ x = omega (arith, is.0, is.1, r.at, o.1.1) in
      subst (λ y. In y offsets) same o.1.0;
  back = λ x i.
      let is = aligned x i in
      let most = within_bitmap offsets within x i in
      let at : 12 + 4 * ((x - 12) / 4) ≡ x = omega (arith, is.0, is.1) in
      subst (λ y. In y (bitmap_offsets (bitmap_of offsets))) at (names 23 12 (bitmap_of offsets) ((x - 12) / 4) (omega arith) (bit_is_set offsets x i));
}

-- Where the references of a struct or exception type lie in a copying heap.
record LaidOut (info : Option TraceInfo) (fields : List FieldLayout) : Type 0 where
  is : info ≡ Some (trace.Struct (ref_offsets fields))
  at : (x : ℕ) → In x (ref_offsets fields) → (x % 4 ≡ 0) × (12 ≤ x)

fields_at : (from : ℕ) (fields : List FieldType) → 12 ≤ from → (x : ℕ) → In x (ref_offsets (field_layouts from fields)) → (x % 4 ≡ 0) × (12 ≤ x)
fields_at from fields low x i = (aligned_fields from fields x i, omega (arith, (Spaced-in from _ _ x (spaced_fields from fields) i).0))

shape_laid : (shape : Shape) (layout : GcStructLayout) → shape_layout Copying shape ≡ Some layout → LaidOut (shape_trace Copying shape) layout.fields
shape_laid (struct_of fields) layout e =
    let same : field_layouts 12 fields ≡ layout.fields = cc in
    subst (LaidOut (shape_trace Copying (struct_of fields))) same (record { is = refl; at = fields_at 12 fields (omega arith) })
shape_laid (array_of elem) layout e = absurd (none-some layout e)
shape_laid (exn_of params) layout e =
    let same : field_layouts 20 (map constant_field params) ≡ layout.fields = cc in
    subst (LaidOut (shape_trace Copying (exn_of params))) same (record { is = refl; at = fields_at 20 (map constant_field params) (omega arith) })
shape_laid (func_of params results) layout e = absurd (none-some layout e)

declared_laid : (d : Option Declaration) (layout : GcStructLayout) → declaration_layout Copying d ≡ Some layout → LaidOut (declaration_trace Copying d) layout.fields
declared_laid None layout e = absurd (none-some layout e)
declared_laid (Some d) layout e = shape_laid d.shape layout e

-- the trace info of an array type
shape_elements : (shape : Shape) (layout : GcArrayLayout) → option_map (array_layout Copying) (shape_elem shape) ≡ Some layout → shape_trace Copying shape ≡ Some (trace.Array layout.elems_are_gc_refs)
shape_elements (struct_of fields) layout e = absurd (none-some layout e)
shape_elements (array_of elem) layout e =
    let same : array_layout Copying elem ≡ layout = cc in
    ap (λ (l : GcArrayLayout). Some (trace.Array l.elems_are_gc_refs)) same
shape_elements (exn_of params) layout e = absurd (none-some layout e)
shape_elements (func_of params results) layout e = absurd (none-some layout e)

declared_elements : (d : Option Declaration) (layout : GcArrayLayout) → option_map (array_layout Copying) (declaration_elem d) ≡ Some layout → declaration_trace Copying d ≡ Some (trace.Array layout.elems_are_gc_refs)
declared_elements None layout e = absurd (none-some layout e)
declared_elements (Some d) layout e = shape_elements d.shape layout e

-- the references of a struct by its trace word
struct_by_word : (types : List Declaration) (o : HeapObject) (traced : IsTracedStruct Copying types o) (past : Bool) → is_past_bitmap (ref_offsets traced.layout.fields) ≡ past → typed_offsets Copying types o o.kind ≡ ref_offsets traced.layout.fields
    → ((x : ℕ) → In x (ref_offsets traced.layout.fields) → (x % 4 ≡ 0) × (12 ≤ x)) → SameElements (traced_offsets types o) (ref_offsets traced.layout.fields)
struct_by_word types o traced true past typed at =
    let offsets : List ℕ = ref_offsets traced.layout.fields in
    let spare : o.spare ≡ 2 * form_unit = traced.spare ∙ ap (λ b. cond b (2 * form_unit) (bitmap_of offsets)) past in
    let form : form_of o.spare ≡ 2 = ap form_of spare in
    same_elements (traced_offsets types o) offsets (content_by_form types o 2 form ∙ typed)
struct_by_word types o traced false past typed at =
    let offsets : List ℕ = ref_offsets traced.layout.fields in
    let spare : o.spare ≡ bitmap_of offsets = traced.spare ∙ ap (λ b. cond b (2 * form_unit) (bitmap_of offsets)) past in
    let below = bitmap_below offsets past in
    let form : form_of o.spare ≡ 0 = omega arith in
    subst (λ xs. SameElements xs offsets) (sym (content_by_form types o 0 form ∙ ap bitmap_offsets spare)) (bitmap_same offsets past at)

struct_followed : (types : List Declaration) (o : HeapObject) → HasFields o.kind → IsTracedStruct Copying types o → SameElements (traced_offsets types o) (typed_offsets Copying types o o.kind)
struct_followed types o fields traced =
    let laid = declared_laid (slice_get types o.ty) traced.layout traced.declared in
    let typed : typed_offsets Copying types o o.kind ≡ ref_offsets traced.layout.fields = typed_is Copying types o o.kind fields ∙ ap (info_offsets Copying o) laid.is in
    subst (SameElements (traced_offsets types o)) (sym typed) (struct_by_word types o traced (is_past_bitmap (ref_offsets traced.layout.fields)) refl typed laid.at)

-- the elements of an array by its trace word
array_by_word : (types : List Declaration) (o : HeapObject) (refs : Bool) → o.spare ≡ form_unit + cond refs 1 0 → traced_offsets types o ≡ info_offsets Copying o (Some (trace.Array refs))
array_by_word types o true spare =
    let form : form_of o.spare ≡ 1 = ap form_of spare in
    let odd : o.spare % 2 ≡ 1 = ap (λ n. n % 2) spare in
    content_by_form types o 1 form ∙ ap (λ n. cond (nat_eq n 1) (element_offsets Copying o) []) odd
array_by_word types o false spare =
    let form : form_of o.spare ≡ 1 = ap form_of spare in
    let even : o.spare % 2 ≡ 0 = ap (λ n. n % 2) spare in
    content_by_form types o 1 form ∙ ap (λ n. cond (nat_eq n 1) (element_offsets Copying o) []) even

array_followed : (types : List Declaration) (o : HeapObject) → HasFields o.kind → IsTracedArray Copying types o → traced_offsets types o ≡ typed_offsets Copying types o o.kind
array_followed types o fields traced =
    array_by_word types o traced.layout.elems_are_gc_refs traced.spare
    ∙ sym (typed_is Copying types o o.kind fields ∙ ap (info_offsets Copying o) (declared_elements (slice_get types o.ty) traced.layout traced.declared))

-- The references of a traced object by its heap are those by its type.
pub followed_offsets : (layouts : Layouts) (types : List Declaration) (o : HeapObject) → HasFields o.kind → IsTraced layouts types o → SameElements (reference_offsets layouts types o) (typed_offsets layouts types o o.kind)
followed_offsets Null types o fields traced = same_elements (typed_offsets Null types o o.kind) (typed_offsets Null types o o.kind) refl
followed_offsets Counting types o fields traced = same_elements (typed_offsets Counting types o o.kind) (typed_offsets Counting types o o.kind) refl
followed_offsets Copying types o fields (inl external) = absurd (subst HasFields external fields)
followed_offsets Copying types o fields (inr (inl struct)) = struct_followed types o fields struct
followed_offsets Copying types o fields (inr (inr array)) = same_elements (traced_offsets types o) (typed_offsets Copying types o o.kind) (array_followed types o fields array)

-- only a struct, an array or an exception has references
pub reference_holder : (layouts : Layouts) (types : List Declaration) (o : HeapObject) (k : VMGcKind) (x : ℕ) → Contains (typed_offsets layouts types o k) x → HasFields k
reference_holder layouts types o ExternRef x among = absurd (omega (arith, among.1))
reference_holder layouts types o AnyRef x among = absurd (omega (arith, among.1))
reference_holder layouts types o EqRef x among = absurd (omega (arith, among.1))
reference_holder layouts types o StructRef x among = tt
reference_holder layouts types o ArrayRef x among = tt
reference_holder layouts types o ExnRef x among = tt
