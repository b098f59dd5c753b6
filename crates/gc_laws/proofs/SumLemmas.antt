-- Sums over two lists that have the same elements, each once.
use Rattle.std.proofs.Common.{◌≡◌, ℕ, List, [], ◌∷◌, map, length, sum, refl, sym, ◌∙◌, arith}
use Rattle.std.specs.List.{sum_by}
use Rattle.std.proofs.lemmas.List.Sums.{sum_by-cons, sum-map}
use Rattle.gc_model.specs.Reach.{AreAll, HasNumber}
use Rattle.gc_model.proofs.HeldSums.{sum_part}

-- two lists of all elements of one set have equal sums
pub same_sums : (IsIn : ℕ → Type 0) (xs ys : List ℕ) → AreAll IsIn xs → AreAll IsIn ys → (f : ℕ → ℕ) → sum (map f xs) ≡ sum (map f ys)
same_sums IsIn xs ys first second f =
    let under = sum_part f xs ys first.distinct (λ p c. (second.all p).1 ((first.all p).0 c)) in
    let over = sum_part f ys xs second.distinct (λ p c. (first.all p).1 ((second.all p).0 c)) in
    let equal : sum_by f xs ≡ sum_by f ys = omega arith in
    sum-map f xs ∙ equal ∙ sym (sum-map f ys)

sum_ones : (xs : List ℕ) → sum_by (λ (p : ℕ). 1) xs ≡ length xs
sum_ones [] = refl
sum_ones (x ∷ xs) =
    let first = sum_by-cons (λ (p : ℕ). 1) x xs in
    let rest = sum_ones xs in
    omega arith

-- a set has one number of elements
pub same_number : (IsIn : ℕ → Type 0) (m n : ℕ) → HasNumber IsIn m → HasNumber IsIn n → m ≡ n
same_number IsIn m n (xs, (first, m_is)) (ys, (second, n_is)) =
    let sums = same_sums IsIn xs ys first second (λ (p : ℕ). 1) in
    let one = sum-map (λ (p : ℕ). 1) xs ∙ sum_ones xs in
    let other = sum-map (λ (p : ℕ). 1) ys ∙ sum_ones ys in
    m_is ∙ (sym one ∙ sums ∙ other) ∙ sym n_is
