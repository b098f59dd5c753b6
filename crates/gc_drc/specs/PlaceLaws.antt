-- Laws of maps and sets over places, and of blocks that lie apart.
use Rattle.std.proofs.Common.{◌≡◌, ℕ, ◌+◌, ◌<◌, ◌≤◌, Bool, true, false, cond, List, [], ◌∷◌, map, Some, None, refl, sym, ap, subst, ◌∙◌, inl, inr, arith}
use Rattle.std.proofs.Math.Logic.{◌⊎◌}
use Rattle.std.specs.Prelude.{filter, nat_eq, ◌||◌}
use Rattle.std.specs.List.{list_any}
use Rattle.std.specs.Ordering.{nat_cmp}
use Rattle.std.specs.Cmp.{unsigned_tied, nat_cmp_total}
use Rattle.std.specs.FinMap as finite
use Rattle.std.specs.FinSet as finset
use Rattle.std.proofs.lemmas.Bool.{cases_eq, cases_lt, ne_eqb, eq-eqb}
use Rattle.gc_memory.specs.Lists.{In, here, there, sum_over, occ}
use Rattle.gc_memory.proofs.ListLemmas.{occ-In, In-occ}
use Rattle.gc_view.specs.Heaps.{HeapObject}
use Rattle.gc_free.specs.Runs.{IsSpread}
use Rattle.gc_heap.specs.Content.{total}
use Rattle.gc_heap.specs.Totals.{total-empty, total-insert}
use Rattle.gc_drc.specs.View.{block_at}
use Rattle.gc_drc.specs.Layout.{block_of}
use Rattle.gc_drc.specs.Content.{at_places, places_of}

-- a number is in a list or not
pub in_or_not : (q : ℕ) (ps : List ℕ) → In q ps ⊎ (In q ps → ⊥)
in_or_not q ps = elim (cases_lt 0 (occ q ps)) [ inl h ↦ inl (occ-In q ps h) | inr h ↦ inr (λ i. let some = In-occ q ps i in omega arith) ]

module _ {X : Type 0} (f : ℕ → X) where
  abbrev block_entries : List ℕ → List (ℕ × X)
  block_entries ps = map (λ (p : ℕ). (p, f p)) ps

  find_tied : (q : ℕ) (es : List (ℕ × X)) → finite.find nat_cmp q ((q, f q) ∷ es) ≡ Some (f q)
  find_tied q es = ap (λ b. cond b (Some (f q)) (finite.find nat_cmp q es)) (unsigned_tied q q ∙ eq-eqb q q refl)

  find_other : (q p : ℕ) (es : List (ℕ × X)) → (q ≡ p → ⊥) → finite.find nat_cmp q ((p, f p) ∷ es) ≡ finite.find nat_cmp q es
  find_other q p es ne = ap (λ b. cond b (Some (f p)) (finite.find nat_cmp q es)) (unsigned_tied q p ∙ ne_eqb q p ne)

  find_in : (q : ℕ) (ps : List ℕ) → In q ps → finite.find nat_cmp q (block_entries ps) ≡ Some (f q)
  find_in q [] i = elim i [ ]
  find_in q (_ ∷ ps) here = find_tied q (block_entries ps)
  find_in q (p ∷ ps) (there i) = elim (cases_eq q p) [
    | inl e ↦ subst (λ k. finite.find nat_cmp q (block_entries (k ∷ ps)) ≡ Some (f q)) e (find_tied q (block_entries ps))
    | inr ne ↦ find_other q p (block_entries ps) ne ∙ find_in q ps i
  ]

  find_none : (q : ℕ) (ps : List ℕ) → (In q ps → ⊥) → finite.find nat_cmp q (block_entries ps) ≡ None
  find_none q [] none = refl
  find_none q (p ∷ ps) none =
      find_other q p (block_entries ps) (λ e. none (subst (λ k. In q (k ∷ ps)) e here)) ∙ find_none q ps (λ i. none (there i))

  -- what lies at one of the places, and at none of them
  pub get_in : (q : ℕ) (ps : List ℕ) → In q ps → finite.get (at_places f ps) q ≡ Some (f q)
  get_in q ps i = finite.get-from_entries nat_cmp_total (block_entries ps) q ∙ find_in q ps i

  pub get_none : (q : ℕ) (ps : List ℕ) → (In q ps → ⊥) → finite.get (at_places f ps) q ≡ None
  get_none q ps none = finite.get-from_entries nat_cmp_total (block_entries ps) q ∙ find_none q ps none

  -- what is found lies at one of the places
  pub found_in : (q : ℕ) (x : X) (ps : List ℕ) → finite.get (at_places f ps) q ≡ Some x → In q ps × (x ≡ f q)
  found_in q x ps e = elim (in_or_not q ps) [
    | inl i ↦ (i, some_is x (f q) (sym (get_in q ps i) ∙ e))
    | inr none ↦ absurd (none_some x (sym (get_none q ps none) ∙ e))
  ]
    where
      some_is : (x y : X) → Some y ≡ Some x → x ≡ y
      some_is x y e = cc

      none_some : (x : X) → None ≡ Some x → ⊥
      none_some x e = cc

-- the places of blocks
pub places-blocks : (sizes : ℕ → ℕ) (ps : List ℕ) → places_of (map (block_at sizes) ps) ≡ ps
places-blocks sizes [] = refl
places-blocks sizes (p ∷ ps) = ap (λ qs. p ∷ qs) (places-blocks sizes ps)

-- where a block lies
pub record BlockLies (sizes : ℕ → ℕ) (low high p : ℕ) : Type 0 where
  pub from : low ≤ p
  pub some : 0 < block_of (sizes p)
  pub to : p + block_of (sizes p) ≤ high

pub spread-lies : (sizes : ℕ → ℕ) (low high p : ℕ) (ps : List ℕ) → IsSpread low high (map (block_at sizes) ps) → In p ps → BlockLies sizes low high p
spread-lies sizes low high p [] up i = elim i [ ]
spread-lies sizes low high _ (p ∷ ps) up here = record { from = up.0; some = up.1; to = up.2 }
spread-lies sizes low high q (p ∷ ps) up (there i) =
    let l = spread-lies sizes (p + block_of (sizes p)) high q ps up.3 i in
    record { from = let a : low ≤ p = up.0 in omega (arith, l.from); some = l.some; to = l.to }

-- of two blocks the one ends before the other begins
pub spread-apart : (sizes : ℕ → ℕ) (low high p q : ℕ) (ps : List ℕ) → IsSpread low high (map (block_at sizes) ps) → In p ps → In q ps → p < q → p + block_of (sizes p) ≤ q
spread-apart sizes low high p q [] up i j before = elim i [ ]
spread-apart sizes low high p _ (_ ∷ ps) up here here before = absurd (omega arith)
spread-apart sizes low high p q (_ ∷ ps) up here (there j) before = (spread-lies sizes (p + block_of (sizes p)) high q ps up.3 j).from
spread-apart sizes low high p q (_ ∷ ps) up (there i) here before =
    let l = spread-lies sizes (q + block_of (sizes q)) high p ps up.3 i in absurd (omega (arith, l.from))
spread-apart sizes low high p q (h ∷ ps) up (there i) (there j) before = spread-apart sizes (h + block_of (sizes h)) high p q ps up.3 i j before

-- a place stands once
pub spread-not_behind : (sizes : ℕ → ℕ) (low high p : ℕ) (ps : List ℕ) → IsSpread low high (map (block_at sizes) (p ∷ ps)) → In p ps → ⊥
spread-not_behind sizes low high p ps up i =
    let some : 0 < block_of (sizes p) = up.1 in
    let l = spread-lies sizes (p + block_of (sizes p)) high p ps up.3 i in omega (arith, l.from)

-- the blocks fit between the two ends
pub spread-sum : (sizes : ℕ → ℕ) (low high : ℕ) (ps : List ℕ) → low ≤ high → IsSpread low high (map (block_at sizes) ps) → low + sum_over (λ p. block_of (sizes p)) ps ≤ high
spread-sum sizes low high [] l up = omega arith
spread-sum sizes low high (p ∷ ps) l up =
    let a : low ≤ p = up.0 in
    let b : p + block_of (sizes p) ≤ high = up.2 in
    let rest = spread-sum sizes (p + block_of (sizes p)) high ps b up.3 in omega (arith, rest)

-- so the blocks take no more than ends there, and there are no more of them
pub spread-total : (sizes : ℕ → ℕ) (low high : ℕ) (ps : List ℕ) → IsSpread low high (map (block_at sizes) ps) → sum_over (λ p. block_of (sizes p)) ps ≤ high
spread-total sizes low high [] up = omega arith
spread-total sizes low high (p ∷ ps) up =
    let b : p + block_of (sizes p) ≤ high = up.2 in
    let rest = spread-sum sizes (p + block_of (sizes p)) high ps b up.3 in omega arith

-- a sum over the objects is a sum over their places
pub total-at_places : (g : HeapObject → ℕ) (f : ℕ → HeapObject) (sizes : ℕ → ℕ) (low high : ℕ) (ps : List ℕ) → IsSpread low high (map (block_at sizes) ps)
    → total g (at_places f ps) ≡ sum_over (λ p. g (f p)) ps
total-at_places g f sizes low high [] up = total-empty g
total-at_places g f sizes low high (p ∷ ps) up =
    let rest = total-at_places g f sizes (p + block_of (sizes p)) high ps up.3 in
    let none = get_none f p ps (spread-not_behind sizes low high p ps up) in
    omega (arith, total-insert g (at_places f ps) p (f p) none, rest)

-- SETS

any-In : (q : ℕ) (xs : List ℕ) → list_any (λ y. nat_eq y q) xs ≡ true → In q xs
any-In q [] e = absurd (cc)
any-In q (y ∷ xs) e = elim (cases_eq y q) [
  | inl is ↦ subst (λ k. In k (y ∷ xs)) is here
  | inr ne ↦ there (any-In q xs (sym (ap (λ b. b || list_any (λ y. nat_eq y q) xs) (ne_eqb y q ne)) ∙ e))
]

pub in_contains : (q : ℕ) (xs : List ℕ) → finset.contains (finset.from_list {R = nat_cmp} xs) q ≡ true → In q xs
in_contains q xs e = any-In q xs (sym (finset.contains-from_list_nat xs q) ∙ e)

in_first : (t : ℕ → Bool) (p q : ℕ) (ps : List ℕ) → t p ≡ true → (In q (filter t ps) → In q ps × (t q ≡ true)) → In q (p ∷ filter t ps) → In q (p ∷ ps) × (t q ≡ true)
in_first t p _ ps e rest here = (here, e)
in_first t p q ps e rest (there j) = let r = rest j in (there r.0, r.1)

pub in_filter : (t : ℕ → Bool) (q : ℕ) (ps : List ℕ) → In q (filter t ps) → In q ps × (t q ≡ true)
in_filter t q [] i = elim i [ ]
in_filter t q (p ∷ ps) i = elim (t p) as (λ b. t p ≡ b → In q (cond b (p ∷ filter t ps) (filter t ps)) → In q (p ∷ ps) × (t q ≡ true)) [
  | true ↦ λ e j. in_first t p q ps e (in_filter t q ps) j
  | false ↦ λ e j. let r = in_filter t q ps j in (there r.0, r.1)
] refl i
