-- A list without repetition of numbers of another list isn't longer.
use Rattle.std.proofs.Common.{◌≡◌, ℕ, zero, suc, ◌+◌, ◌≤◌, cond, nat_eq, false, List, [], ◌∷◌, length, refl, sym, ap, subst, ◌∙◌, inl, inr, arith}
use Rattle.std.proofs.lemmas.Bool.{cases_eq, eq-eqb, ne_eqb}
use Rattle.gc_memory.specs.Lists.{In, here, there, sum_over, occ}
use Rattle.gc_memory.proofs.ListLemmas.{occ-same, occ-other, sum_over-le}
use Rattle.gc_copying.specs.CopyWords.{next_external}
use Rattle.gc_copying.specs.CopyStart.{NextExternals, none, link}

-- 1 where two numbers are equal
tally : ℕ → ℕ → ℕ
tally p x = cond (nat_eq x p) 1 0

tally_same : (p : ℕ) → tally p p ≡ 1
unfolding tally
tally_same p = ap (λ b. cond b 1 0) (eq-eqb p p refl)

tally_other : (p x : ℕ) → (x ≡ p → ⊥) → tally p x ≡ 0
unfolding tally
tally_other p x ne = ap (λ b. cond b 1 0) (ne_eqb x p ne)

tally_sum : (p : ℕ) (qs : List ℕ) → sum_over (tally p) qs ≡ occ p qs
tally_sum p [] = refl
tally_sum p (q ∷ qs) = elim (cases_eq p q) [
  | inl e ↦
      let first : tally p q ≡ 1 = subst (λ (x : ℕ). tally p x ≡ 1) e (tally_same p) in
      let second : occ p (q ∷ qs) ≡ 1 + occ p qs = subst (λ (x : ℕ). occ p (x ∷ qs) ≡ 1 + occ p qs) e (occ-same p qs) in
      omega (arith, first, second, tally_sum p qs)
  | inr ne ↦ omega (arith, tally_other p q (λ e. ne (sym e)), occ-other p q qs ne, tally_sum p qs)
]

tally_occ : (p : ℕ) (ps : List ℕ) (x : ℕ) → occ x (p ∷ ps) ≡ tally p x + occ x ps
unfolding tally
tally_occ p ps x = refl

sum_more : (p : ℕ) (ps qs : List ℕ) → sum_over (λ x. occ x (p ∷ ps)) qs ≡ sum_over (tally p) qs + sum_over (λ x. occ x ps) qs
sum_more p ps [] = refl
sum_more p ps (q ∷ qs) = omega (arith, tally_occ p ps q, sum_more p ps qs)

sum_none : (qs : List ℕ) → sum_over (λ x. occ x []) qs ≡ 0
sum_none [] = refl
sum_none (q ∷ qs) = omega (arith, sum_none qs)

sum_occ : (ps qs : List ℕ) → ((p : ℕ) → In p ps → occ p qs ≡ 1) → sum_over (λ x. occ x ps) qs ≡ length ps
sum_occ [] qs inside = sum_none qs
sum_occ (p ∷ ps) qs inside =
    let first : occ p qs ≡ 1 = inside p here in
    omega (arith, sum_more p ps qs, tally_sum p qs, first, sum_occ ps qs (λ x i. inside x (there i)))

sum_ones : (qs : List ℕ) → sum_over (λ x. 1) qs ≡ length qs
sum_ones [] = refl
sum_ones (q ∷ qs) = omega (arith, sum_ones qs)

-- so there are at most as many
pub few : (ps qs : List ℕ) → ((p : ℕ) → In p ps → occ p qs ≡ 1) → ((p : ℕ) → occ p ps ≤ 1) → length ps ≤ length qs
few ps qs inside once = omega (arith, sum_occ ps qs inside, sum_ones qs, sum_over-le (λ x. 1) (λ x. occ x ps) qs (λ x i. once x))

-- how many links are followed from a place on, at most so many
pub count_links : ℕ → List ℕ → ℕ → ℕ
count_links zero m e = 0
count_links (suc n) m e = cond (nat_eq e 0) 0 (1 + count_links n m (next_external m e))

one_more : {a b : ℕ} → a ≡ b → 1 + a ≡ suc b
one_more e = omega arith

pub linked_count : (n : ℕ) (m ps : List ℕ) (e : ℕ) → NextExternals m e ps → length ps ≤ n → count_links n m e ≡ length ps
unfolding count_links
linked_count zero m [] _ none h = refl
linked_count (suc n) m [] _ none h = refl
linked_count zero m (_ ∷ ps) e (link some l) h = absurd (omega arith)
linked_count (suc n) m (_ ∷ ps) e (link some l) h =
    let ne : nat_eq e 0 ≡ false = ne_eqb e 0 (λ z. omega arith) in
    ap (λ b. cond b 0 (1 + count_links n m (next_external m e))) ne ∙ one_more (linked_count n m ps (next_external m e) l (omega arith))
