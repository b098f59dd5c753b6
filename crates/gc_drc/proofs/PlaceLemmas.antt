-- What is found at places, how many blocks there are, and sets of places.
use Rattle.std.proofs.Common.{◌≡◌, ℕ, ◌+◌, ◌<◌, ◌≤◌, Bool, true, false, cond, List, [], ◌∷◌, length, map, refl, sym, ap, ap₂, subst, ◌∙◌, arith}
use Rattle.std.specs.Prelude.{filter, nat_eq, ◌||◌}
use Rattle.std.specs.List.{list_any}
use Rattle.std.specs.Ordering.{nat_cmp}
use Rattle.std.specs.Cmp.{nat_cmp_total}
use Rattle.std.specs.FinMap as finite
use Rattle.std.specs.FinSet as finset
use Rattle.std.proofs.lemmas.Bool.{eq-eqb}
use Rattle.gc_memory.specs.Lists.{In, here, there, sum_over}
use Rattle.gc_view.specs.Heaps.{HeapObject}
use Rattle.gc_free.specs.Runs.{IsSpread}
use Rattle.gc_heap.proofs.TotalLemmas.{len_with}
use Rattle.gc_drc.specs.View.{block_at}
use Rattle.gc_drc.specs.Layout.{block_of}
use Rattle.gc_drc.specs.Content.{at_places}
use Rattle.gc_drc.specs.PlaceLaws.{get_none, spread-not_behind, in_contains}

-- functions that agree at the places give the same map
pub at_places-same : {X : Type 0} (f g : ℕ → X) (ps : List ℕ) → ((p : ℕ) → In p ps → g p ≡ f p) → at_places g ps ≡ at_places f ps
at_places-same f g [] same = refl
at_places-same f g (p ∷ ps) same = ap₂ (λ m o. finite.insert m p o) (at_places-same f g ps (λ q i. same q (there i))) (same p here)

pub spread-length : (sizes : ℕ → ℕ) (low high : ℕ) (ps : List ℕ) → IsSpread low high (map (block_at sizes) ps) → length ps ≤ sum_over (λ p. block_of (sizes p)) ps
spread-length sizes low high [] up = omega arith
spread-length sizes low high (p ∷ ps) up =
    let some : 0 < block_of (sizes p) = up.1 in
    let rest = spread-length sizes (p + block_of (sizes p)) high ps up.3 in omega arith

-- as many objects as places
pub len-at : (f : ℕ → HeapObject) (sizes : ℕ → ℕ) (low high : ℕ) (ps : List ℕ) → IsSpread low high (map (block_at sizes) ps) → finite.len (at_places f ps) ≡ length ps
len-at f sizes low high [] up = finite.len-empty nat_cmp HeapObject
len-at f sizes low high (p ∷ ps) up =
    let rest = len-at f sizes (p + block_of (sizes p)) high ps up.3 in
    let none = get_none f p ps (spread-not_behind sizes low high p ps up) in
    omega (arith, len_with (at_places f ps) p (f p) none, rest)

In-any : (q : ℕ) (xs : List ℕ) → In q xs → list_any (λ y. nat_eq y q) xs ≡ true
In-any q [] i = elim i [ ]
In-any q (_ ∷ xs) here = ap (λ b. b || list_any (λ y. nat_eq y q) xs) (eq-eqb q q refl)
In-any q (y ∷ xs) (there i) = elim (nat_eq y q) as (λ b. (b || list_any (λ y. nat_eq y q) xs) ≡ true) [ true ↦ refl | false ↦ In-any q xs i ]

same_bool : (a b : Bool) → (a ≡ true → b ≡ true) → (b ≡ true → a ≡ true) → a ≡ b
same_bool true b f g = sym (f refl)
same_bool false true f g = g refl
same_bool false false f g = refl

-- what a set of a list has
pub contains_in : (q : ℕ) (xs : List ℕ) → In q xs → finset.contains (finset.from_list {R = nat_cmp} xs) q ≡ true
contains_in q xs i = finset.contains-from_list_nat xs q ∙ In-any q xs i

pub contains_not : (q : ℕ) (xs : List ℕ) → (In q xs → ⊥) → finset.contains (finset.from_list {R = nat_cmp} xs) q ≡ false
contains_not q xs none = elim (finset.contains (finset.from_list {R = nat_cmp} xs) q) as (λ b. finset.contains (finset.from_list {R = nat_cmp} xs) q ≡ b → b ≡ false) [
  | true ↦ λ e. absurd (none (in_contains q xs e))
  | false ↦ λ e. refl
] refl

-- lists with the same numbers are one set
pub same_members : (xs ys : List ℕ) → ((q : ℕ) → In q xs → In q ys) → ((q : ℕ) → In q ys → In q xs) → finset.from_list {R = nat_cmp} xs ≡ finset.from_list ys
same_members xs ys to from = finset.same_set nat_cmp_total finset.nat_cmp-IsAntisymmetric _ _ (λ q. same_bool _ _ (λ e. contains_in q ys (to q (in_contains q xs e))) (λ e. contains_in q xs (from q (in_contains q ys e))))

-- the numbers that pass a test
pub filter_in : (t : ℕ → Bool) (q : ℕ) (ps : List ℕ) → In q ps → t q ≡ true → In q (filter t ps)
filter_in t q [] i e = elim i [ ]
filter_in t q (_ ∷ ps) here e = subst (λ b. In q (cond b (q ∷ filter t ps) (filter t ps))) (sym e) here
filter_in t q (p ∷ ps) (there i) e = elim (t p) as (λ b. In q (cond b (p ∷ filter t ps) (filter t ps))) [ true ↦ there (filter_in t q ps i e) | false ↦ filter_in t q ps i e ]
