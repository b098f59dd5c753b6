-- External objects and their host values, as objects and values come and go.
use Rattle.std.proofs.Common.{◌≡◌, ℕ, ◌+◌, ◌*◌, ◌^◌, ◌<◌, ◌≤◌, ◌⊎◌, inl, inr, true, false, length, Some, None, is_some, refl, sym, ap, ◌∙◌, subst, arith}
use Rattle.std.specs.Prelude.{sum_by, List, [], ◌∷◌}
use Rattle.std.specs.FinMap.{FinMap, empty, get, len, insert, remove, entries, len-empty, same_map, nat_cmp-IsAntisymmetric, gets}
use Rattle.std.specs.Cmp.{nat_cmp_total}
use Rattle.std.specs.Ordering.{nat_cmp}
use Rattle.std.proofs.lemmas.Bool.{cases_eq}
use Rattle.std.proofs.lemmas.Grind.{common_steps}
use Rattle.std.proofs.lemmas.List.Sums.{sum-map, sum_by-cons}
use Rattle.std.proofs.lemmas.Option.{same_Some}
use Rattle.gc_types.specs.declared.kind.Layouts.{Layouts}
use Rattle.gc_types.specs.declared.kind.Layouts.TheVariants.{Null, Counting, Copying}
use Rattle.gc_types.specs.declared.kind.VMGcKind.{VMGcKind}
use Rattle.gc_types.specs.declared.kind.VMGcKind.TheVariants.{AnyRef, ArrayRef, EqRef, ExnRef, ExternRef, StructRef}
use Rattle.gc_view.specs.Heaps.{HeapObject, HeapView}
use Rattle.gc_view.proofs.Content.{get-put_same, get-put_other}
use Rattle.gc_heap.specs.Content.{IsHeap, total}
use Rattle.gc_heap.specs.Extents.{held_size, size_with}
use Rattle.gc_heap.specs.Objects.{external, host_id}
use Rattle.gc_heap.specs.Collection.{has_host}
use Rattle.gc_heap.specs.Totals.{total-empty, total-insert}
use Rattle.gc_heap.proofs.TotalLemmas.{total-remove}
use Rattle.gc_heap.proofs.AddedLemmas.{external_id}
use Rattle.gc_heap.proofs.NameLemmas.{total-le}
use Rattle.gc_tables.specs.SideTables.{max_entries}
use Rattle.gc_raw_store.specs.Stores.{PairsHosts, external_count, one_if_external}

-- Host values

host_there : {D : Type 0} (hosts : FinMap nat_cmp D) (id : ℕ) (value : D) → has_host (insert hosts id value) id ≡ true
host_there hosts id value = grind (arith, common_steps, gets)

host_more : {D : Type 0} (hosts : FinMap nat_cmp D) (id q : ℕ) (value : D) → has_host hosts q ≡ true → has_host (insert hosts id value) q ≡ true
host_more hosts id q value is = grind (arith, common_steps, gets)

len_more : {D : Type 0} (hosts : FinMap nat_cmp D) (id : ℕ) (value : D) → get hosts id ≡ None → len (insert hosts id value) ≡ len hosts + 1
len_more hosts id value fresh = grind (arith, common_steps, gets)

len_again : {D : Type 0} (hosts : FinMap nat_cmp D) (id : ℕ) (value : D) → has_host hosts id ≡ true → len (insert hosts id value) ≡ len hosts
len_again hosts id value there = grind (arith, common_steps, gets)

-- a value that is taken out again leaves what was before it
pub taken_again : {D : Type 0} (hosts : FinMap nat_cmp D) (id : ℕ) (value : D) → get hosts id ≡ None → remove (insert hosts id value) id ≡ hosts
taken_again hosts id value fresh = same_map nat_cmp_total nat_cmp-IsAntisymmetric _ _ (λ q. grind (arith, common_steps, gets))

pub put_there : {D : Type 0} (hosts : FinMap nat_cmp D) (id : ℕ) (value : D) → get (insert hosts id value) id ≡ Some value
put_there hosts id value = grind (arith, common_steps, gets)

-- Objects

no_external : (kind : VMGcKind) → (kind ≡ ExternRef → ⊥) → one_if_external kind ≡ 0
no_external ExternRef other = absurd (other refl)
no_external AnyRef other = refl
no_external EqRef other = refl
no_external StructRef other = refl
no_external ArrayRef other = refl
no_external ExnRef other = refl

kept_get : (content : FinMap nat_cmp HeapObject) (place q : ℕ) (x : HeapObject) → get (remove content place) q ≡ Some x → get content q ≡ Some x
kept_get content place q x is = elim (cases_eq q place) [
  | inl at ↦ grind (arith, common_steps, gets)
  | inr other ↦ grind (arith, common_steps, gets)
]

-- the object that is found where one was added
found_new : (content : FinMap nat_cmp HeapObject) (place : ℕ) (o x : HeapObject) → get (insert content place o) place ≡ Some x → x ≡ o
found_new content place o x is = same_Some x o (sym is ∙ get-put_same content place o)

module _ (content : FinMap nat_cmp HeapObject) (place : ℕ) (o : HeapObject) where
  -- beside an object that was added, what is found was there before
  old_or_new : (q : ℕ) (x : HeapObject) → get (insert content place o) q ≡ Some x → ((q ≡ place) × (x ≡ o)) ⊎ (get content q ≡ Some x)
  old_or_new q x is = elim (cases_eq q place) [
    | inl at ↦ inl (at, found_new content place o x (ap (get (insert content place o)) (sym at) ∙ is))
    | inr other ↦ inr (sym (get-put_other content place q o other) ∙ is)
  ]

  -- an external object is an old one, where the new one is none
  old_external : (o.kind ≡ ExternRef → ⊥) → (q : ℕ) (x : HeapObject) → get (insert content place o) q ≡ Some x → x.kind ≡ ExternRef → get content q ≡ Some x
  old_external other q x is kind = elim (old_or_new q x is) [
    | inl new ↦ absurd (other (ap (λ (y : HeapObject). y.kind) (sym new.1) ∙ kind))
    | inr old ↦ old
  ]

-- What pairs objects and values stays so.

pub paired_empty : {D : Type 0} (content : FinMap nat_cmp HeapObject) → content ≡ empty → PairsHosts {D = D} content empty
paired_empty {D} content none = subst (λ (m : FinMap nat_cmp HeapObject). PairsHosts {D = D} m empty) (sym none) (record {
  there = λ place o is kind. absurd (nothing place o is);
  own = λ p q o o' is is' kind kind' same. absurd (nothing p o is);
  as_many = len-empty nat_cmp D ∙ sym (total-empty (λ (o : HeapObject). one_if_external o.kind));
})
  where
    nothing : (place : ℕ) (o : HeapObject) → get (empty {X = HeapObject} {R = nat_cmp}) place ≡ Some o → ⊥
    nothing place o is = grind (arith, common_steps, gets)

-- an object more that is no external one
pub paired_more : {D : Type 0} (content : FinMap nat_cmp HeapObject) (hosts : FinMap nat_cmp D) (place : ℕ) (o : HeapObject) → get content place ≡ None → (o.kind ≡ ExternRef → ⊥) → PairsHosts content hosts → PairsHosts (insert content place o) hosts
paired_more content hosts place o free other paired = record {
  there = λ q x is kind. paired.there q x (old_external content place o other q x is kind) kind;
  own = λ p q x y is is' kind kind' same. paired.own p q x y (old_external content place o other p x is kind) (old_external content place o other q y is' kind') kind kind' same;
  as_many =
      let more : external_count (insert content place o) ≡ external_count content + one_if_external o.kind = total-insert (λ (x : HeapObject). one_if_external x.kind) content place o free in
      let none = no_external o.kind other in
      let before = paired.as_many in
      omega arith;
}

-- an object less that is no external one
pub paired_less : {D : Type 0} (content : FinMap nat_cmp HeapObject) (hosts : FinMap nat_cmp D) (place : ℕ) (o : HeapObject) → get content place ≡ Some o → (o.kind ≡ ExternRef → ⊥) → PairsHosts content hosts → PairsHosts (remove content place) hosts
paired_less content hosts place o held other paired = record {
  there = λ q x is kind. paired.there q x (kept_get content place q x is) kind;
  own = λ p q x y is is' kind kind' same. paired.own p q x y (kept_get content place p x is) (kept_get content place q y is') kind kind' same;
  as_many =
      let less : external_count (remove content place) + one_if_external o.kind ≡ external_count content = total-remove (λ (x : HeapObject). one_if_external x.kind) content place o held in
      let none = no_external o.kind other in
      let before = paired.as_many in
      omega arith;
}

-- a new external object with a new value
pub paired_host : {D : Type 0} (content : FinMap nat_cmp HeapObject) (hosts : FinMap nat_cmp D) (place id : ℕ) (value : D) → get content place ≡ None → get hosts id ≡ None → id + 1 < 2 ^ 32 → PairsHosts content hosts
    → PairsHosts (insert content place (external id)) (insert hosts id value)
paired_host {D} content hosts place id value free fresh small paired = record {
  there = λ q x is kind. elim (old_or_new content place (external id) q x is) [
    | inl new ↦ ap (has_host (insert hosts id value)) (ap host_id new.1 ∙ external_id id small) ∙ host_there hosts id value
    | inr old ↦ host_more hosts id (host_id x) value (paired.there q x old kind)
  ];
  own = λ p q x y is is' kind kind' same. elim (old_or_new content place (external id) p x is) [
    | inl new ↦ elim (old_or_new content place (external id) q y is') [
      | inl new' ↦ new.0 ∙ sym new'.0
      | inr old' ↦ absurd (taken q y old' kind' (sym same ∙ ap host_id new.1 ∙ external_id id small))
    ]
    | inr old ↦ elim (old_or_new content place (external id) q y is') [
      | inl new' ↦ absurd (taken p x old kind (same ∙ ap host_id new'.1 ∙ external_id id small))
      | inr old' ↦ paired.own p q x y old old' kind kind' same
    ]
  ];
  as_many =
      let more : external_count (insert content place (external id)) ≡ external_count content + 1 = total-insert (λ (x : HeapObject). one_if_external x.kind) content place (external id) free in
      let values = len_more hosts id value fresh in
      let before = paired.as_many in
      omega arith;
}
  where
    -- no object has the new id yet
    taken : (q : ℕ) (x : HeapObject) → get content q ≡ Some x → x.kind ≡ ExternRef → host_id x ≡ id → ⊥
    taken q x is kind same =
        let has : has_host hosts id ≡ true = ap (has_host hosts) (sym same) ∙ paired.there q x is kind in
        let none : has_host hosts id ≡ false = ap is_some fresh in
        absurd (cc)

-- another value under an id that has one
pub paired_again : {D : Type 0} (content : FinMap nat_cmp HeapObject) (hosts : FinMap nat_cmp D) (id : ℕ) (value : D) → has_host hosts id ≡ true → PairsHosts content hosts → PairsHosts content (insert hosts id value)
paired_again content hosts id value there paired = record {
  there = λ q x is kind. host_more hosts id (host_id x) value (paired.there q x is kind);
  own = paired.own;
  as_many = len_again hosts id value there ∙ paired.as_many;
}

-- The table is never full: each value has an object of 8 bytes at least in one memory.

base_least : (layouts : Layouts) (n : ℕ) → 8 ≤ size_with layouts ExternRef n
base_least Null n = omega arith
base_least Counting n = omega arith
base_least Copying n = omega arith

counted_least : (layouts : Layouts) (kind : VMGcKind) (n : ℕ) → 8 * one_if_external kind ≤ size_with layouts kind n
counted_least layouts ExternRef n = base_least layouts n
counted_least layouts AnyRef n = omega arith
counted_least layouts EqRef n = omega arith
counted_least layouts StructRef n = omega arith
counted_least layouts ArrayRef n = omega arith
counted_least layouts ExnRef n = omega arith

sum_eight : (f : ℕ × HeapObject → ℕ) (es : List (ℕ × HeapObject)) → sum_by (λ e. 8 * f e) es ≡ 8 * sum_by f es
sum_eight f [] = refl
sum_eight f (e ∷ es) =
    let rest = sum_eight f es in
    let here = sum_by-cons f e es in
    let eight = sum_by-cons (λ e. 8 * f e) e es in
    omega arith

total-eight : (f : HeapObject → ℕ) (content : FinMap nat_cmp HeapObject) → total (λ o. 8 * f o) content ≡ 8 * total f content
total-eight f content =
    sum-map (λ (e : ℕ × HeapObject). 8 * f e.1) (entries content)
    ∙ sum_eight (λ (e : ℕ × HeapObject). f e.1) (entries content)
    ∙ ap (λ n. 8 * n) (sym (sum-map (λ (e : ℕ × HeapObject). f e.1) (entries content)))

pub few_hosts : {D : Type 0} (layouts : Layouts) (h : HeapView) (hosts : FinMap nat_cmp D) → IsHeap layouts h → PairsHosts h.content hosts → len hosts < max_entries
few_hosts layouts h hosts heap paired =
    let f : HeapObject → ℕ = λ o. one_if_external o.kind in
    let eights : total (λ o. 8 * f o) h.content ≤ total (held_size layouts) h.content = total-le (λ o. 8 * f o) (held_size layouts) h.content (λ q o is. counted_least layouts o.kind (length o.bytes)) in
    let scaled : total (λ o. 8 * f o) h.content ≡ 8 * external_count h.content = total-eight f h.content in
    let as_many = paired.as_many in
    let fits = heap.fits in
    let bound = heap.bound in
    omega arith
