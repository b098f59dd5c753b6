-- Sums over some elements of a list, and the elements that pass a test.
use Rattle.std.proofs.Common.{◌≡◌, ◌≢◌, ℕ, suc, ◌+◌, ◌≤◌, Bool, true, false, cond, nat_eq, List, [], ◌∷◌, ◌++◌, map, filter, Some, Contains, inl, inr, refl, sym, ap, ap₂, ◌∙◌, subst, arith, eq-eqb, ne_eqb}
use Rattle.std.specs.List.{slice_get, IsDistinct, AllByRecursion, sum_by}
use Rattle.std.proofs.lemmas.Bool.{cases_eq}
use Rattle.std.proofs.lemmas.List.Sums.{sum_by-cons}
use Rattle.std.proofs.lemmas.List.Elements.{Contains-append_cases, Contains-append_right}
use Rattle.gc_memory.proofs.ListLemmas.{only_item}
use Rattle.gc_model.proofs.CollectedLists.{get_contains}
use Rattle.gc_model.proofs.HeldEntries.{all_others}

-- the list without the first x
abbrev without : ℕ → List ℕ → List ℕ
without x [] = []
without x (y ∷ ys) = cond (nat_eq x y) ys (y ∷ without x ys)

contains_later : (y : ℕ) (ys : List ℕ) (x : ℕ) → x ≢ y → Contains (y ∷ ys) x → Contains ys x
contains_later y ys x differ c = elim (Contains-append_cases (y ∷ []) ys x c) [
  | inl one ↦ absurd (differ (sym (only_item y x one)))
  | inr later ↦ later
]

sum_without : (f : ℕ → ℕ) (x : ℕ) (ys : List ℕ) → Contains ys x → sum_by f ys ≡ f x + sum_by f (without x ys)
sum_without f x [] c = absurd (omega (arith, c.1))
sum_without f x (y ∷ ys) c = elim (cases_eq x y) [
  | inl same ↦ sum_by-cons f y ys ∙ ap₂ (λ (n : ℕ) (zs : List ℕ). n + sum_by f zs) (ap f (sym same)) (sym (ap (λ b. cond b ys (y ∷ without x ys)) (eq-eqb x y same)))
  | inr other ↦
      let rest = sum_without f x ys (contains_later y ys x other c) in
      let here = sum_by-cons f y ys in
      let there = sum_by-cons f y (without x ys) in
      let kept : sum_by f (without x (y ∷ ys)) ≡ sum_by f (y ∷ without x ys) = ap (λ b. sum_by f (cond b ys (y ∷ without x ys))) (ne_eqb x y other) in
      omega arith
]

contains_without : (x z : ℕ) (ys : List ℕ) → z ≢ x → Contains ys z → Contains (without x ys) z
contains_without x z [] differ c = c
contains_without x z (y ∷ ys) differ c = elim (cases_eq x y) [
  | inl same ↦ subst (λ l. Contains l z) (sym (ap (λ b. cond b ys (y ∷ without x ys)) (eq-eqb x y same))) (contains_later y ys z (λ e. differ (e ∙ sym same)) c)
  | inr other ↦ subst (λ l. Contains l z) (sym (ap (λ b. cond b ys (y ∷ without x ys)) (ne_eqb x y other))) (elim (Contains-append_cases (y ∷ []) ys z c) [
    | inl one ↦ get_contains (y ∷ without x ys) 0 z (ap (λ n. Some n) (only_item y z one))
    | inr later ↦ Contains-append_right (y ∷ []) (without x ys) z (contains_without x z ys differ later)
  ])
]

-- a number that differs from all of a list is none of it
pub no_other : (x : ℕ) (ys : List ℕ) → AllByRecursion (λ y. nat_eq x y ≡ false) ys → (z : ℕ) → Contains ys z → z ≢ x
no_other x [] all z c same = omega (arith, c.1)
no_other x (y ∷ ys) all z c same = elim (Contains-append_cases (y ∷ []) ys z c) [
  | inl one ↦ differ (sym (eq-eqb x y (sym same ∙ sym (only_item y z one))) ∙ all.0)
  | inr later ↦ no_other x ys all.1 z later same
]
  where
    differ : true ≡ false → ⊥
    differ e = cc

-- a sum over some elements of a list, each once, is no greater than the sum over all
pub sum_part : (f : ℕ → ℕ) (xs ys : List ℕ) → IsDistinct nat_eq xs → ((x : ℕ) → Contains xs x → Contains ys x) → sum_by f xs ≤ sum_by f ys
unfolding IsDistinct
sum_part f [] ys distinct within = omega arith
sum_part f (x ∷ xs) ys distinct within =
    let all = sum_without f x ys (within x (get_contains (x ∷ xs) 0 x refl)) in
    let first = sum_by-cons f x xs in
    let rest = sum_part f xs (without x ys) distinct.1 (λ z c. contains_without x z ys (no_other x xs distinct.0 z c) (within z (Contains-append_right (x ∷ []) xs z c))) in
    omega arith

-- the elements that pass a test
pub passing : (test : ℕ → Bool) (xs : List ℕ) (z : ℕ) → Contains (filter test xs) z → Contains xs z × (test z ≡ true)
passing test [] z c = absurd (omega (arith, c.1))
passing test (x ∷ xs) z c = elim (test x) as (λ b. test x ≡ b → Contains (cond b (x ∷ filter test xs) (filter test xs)) z → Contains (x ∷ xs) z × (test z ≡ true)) [
  | true ↦ λ is c. elim (Contains-append_cases (x ∷ []) (filter test xs) z c) [
    | inl one ↦ (get_contains (x ∷ xs) 0 z (ap (λ n. Some n) (only_item x z one)), ap test (sym (only_item x z one)) ∙ is)
    | inr later ↦ let rest = passing test xs z later in (Contains-append_right (x ∷ []) xs z rest.0, rest.1)
  ]
  | false ↦ λ is c. let rest = passing test xs z c in (Contains-append_right (x ∷ []) xs z rest.0, rest.1)
] refl c

pub passes : (test : ℕ → Bool) (xs : List ℕ) (z : ℕ) → Contains xs z → test z ≡ true → Contains (filter test xs) z
passes test [] z c is = c
passes test (x ∷ xs) z c is = elim (Contains-append_cases (x ∷ []) xs z c) [
  | inl one ↦ subst (λ b. Contains (cond b (x ∷ filter test xs) (filter test xs)) z) (sym (ap test (only_item x z one) ∙ is)) (get_contains (x ∷ filter test xs) 0 z (ap (λ n. Some n) (only_item x z one)))
  | inr later ↦ elim (test x) as (λ b. Contains (cond b (x ∷ filter test xs) (filter test xs)) z) [
    | true ↦ Contains-append_right (x ∷ []) (filter test xs) z (passes test xs z later is)
    | false ↦ passes test xs z later is
  ]
]

pub distinct_passing : (test : ℕ → Bool) (xs : List ℕ) → IsDistinct nat_eq xs → IsDistinct nat_eq (filter test xs)
unfolding IsDistinct
distinct_passing test [] distinct = tt
distinct_passing test (x ∷ xs) distinct = elim (test x) as (λ b. IsDistinct nat_eq (cond b (x ∷ filter test xs) (filter test xs))) [
  | true ↦ (all_others x (filter test xs) (λ z c same. no_other x xs distinct.0 z (passing test xs z c).0 (sym same)), distinct_passing test xs distinct.1)
  | false ↦ distinct_passing test xs distinct.1
]

-- one more number, which is none of them
pub distinct_push : (xs : List ℕ) (n : ℕ) → IsDistinct nat_eq xs → (Contains xs n → ⊥) → IsDistinct nat_eq (xs ++ n ∷ [])
unfolding IsDistinct
distinct_push [] n distinct other = (tt, tt)
distinct_push (x ∷ xs) n distinct other = (
  all_others x (xs ++ n ∷ []) (λ z c same. elim (Contains-append_cases xs (n ∷ []) z c) [
    | inl one ↦ no_other x xs distinct.0 z one (sym same)
    | inr last ↦ other (get_contains (x ∷ xs) 0 n (ap (λ k. Some k) (same ∙ sym (only_item n z last))))
  ]),
  distinct_push xs n distinct.1 (λ c. other (Contains-append_right (x ∷ []) xs n c)),
)

-- a sum over the images of a list's elements
pub same_sums : {X : Type 0} (f : ℕ → ℕ) (g : X → ℕ) (h : X → ℕ) (es : List X) → ((i : ℕ) (e : X) → slice_get es i ≡ Some e → f (g e) ≡ h e) → sum_by f (map g es) ≡ sum_by h es
same_sums f g h [] same = refl
same_sums f g h (e ∷ es) same =
    let rest = same_sums f g h es (λ i. same (suc i)) in
    let first = same 0 e refl in
    let one = sum_by-cons f (g e) (map g es) in
    let other = sum_by-cons h e es in
    omega arith
