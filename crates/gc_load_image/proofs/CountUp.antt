-- The first positions of a table, each once.
use Rattle.std.proofs.Common.{◌≡◌, ℕ, zero, suc, ◌+◌, ◌<◌, false, nat_eq, List, [], ◌∷◌, Option, Some, map, length, sum, refl, sym, ap, ap₂, ◌∙◌, arith, Contains}
use Rattle.std.specs.Prelude.{sum_by}
use Rattle.std.specs.List.{AllByRecursion, IsDistinct, slice_get}
use Rattle.std.proofs.lemmas.Bool.{ne_eqb}
use Rattle.std.proofs.lemmas.List.Sums.{sum_by-cons}
use Rattle.std.proofs.lemmas.Option.{get_or_from_slice_get, none-some, same_Some, slice_get-get_or, slice_get_within}
use Rattle.gc_model.specs.Reach.{AreAll}

-- so many numbers from one on
abbrev pub count_up : ℕ → ℕ → List ℕ
count_up from zero = []
count_up from (suc n) = from ∷ count_up (suc from) n

pub length-count_up : (from n : ℕ) → length (count_up from n) ≡ n
length-count_up from zero = refl
length-count_up from (suc n) = ap suc (length-count_up (suc from) n)

pub counted_at : (from n i p : ℕ) → slice_get (count_up from n) i ≡ Some p → (p ≡ from + i) × (i < n)
counted_at from zero i p e = absurd (none-some p e)
counted_at from (suc n) zero p e = let same : from ≡ p = same_Some from p e in (omega (arith, same), omega arith)
counted_at from (suc n) (suc i) p e = let rest = counted_at (suc from) n i p e in (omega (arith, rest.0), omega (arith, rest.1))

pub counted_here : (from n i : ℕ) → i < n → slice_get (count_up from n) i ≡ Some (from + i)
counted_here from zero i below = absurd (omega arith)
counted_here from (suc n) zero below = ap Some (let e : from ≡ from + 0 = omega arith in e)
counted_here from (suc n) (suc i) below = counted_here (suc from) n i (omega (arith, below)) ∙ ap Some (let e : suc from + i ≡ from + suc i = omega arith in e)

-- none is below the first
above_all : (from n x : ℕ) → x < from → AllByRecursion (λ y. nat_eq x y ≡ false) (count_up from n)
above_all from zero x below = tt
above_all from (suc n) x below = (ne_eqb x from (λ e. absurd (omega (arith, e, below))), above_all (suc from) n x (omega (arith, below)))

counted_apart : (from n : ℕ) → IsDistinct nat_eq (count_up from n)
unfolding IsDistinct
counted_apart from zero = tt
counted_apart from (suc n) = (above_all (suc from) n from (omega arith), counted_apart (suc from) n)

pub contains_at : (xs : List ℕ) (i p : ℕ) → slice_get xs i ≡ Some p → Contains xs p
contains_at xs i p e = (i, slice_get_within xs i p e, get_or_from_slice_get xs i p p e)

pub found_at : (xs : List ℕ) (p : ℕ) → Contains xs p → (i : ℕ) × (slice_get xs i ≡ Some p)
found_at xs p among = (among.0, slice_get-get_or xs among.0 p among.1 ∙ ap Some among.2)

counted_below : (n p : ℕ) → Contains (count_up 0 n) p → p < n
counted_below n p among = let found = found_at (count_up 0 n) p among in let at = counted_at 0 n found.0 p found.1 in omega (arith, at.0, at.1)

-- those of a set are all of them
pub all_counted : (IsIn : ℕ → Type 0) (n : ℕ) → ((p : ℕ) → p < n → IsIn p) → ((p : ℕ) → IsIn p → p < n) → AreAll IsIn (count_up 0 n)
all_counted IsIn n holds only = record {
  distinct = counted_apart 0 n;
  all = λ p. (λ among. holds p (counted_below n p among), λ is. contains_at (count_up 0 n) p p (counted_here 0 n p (only p is) ∙ ap Some (let e : 0 + p ≡ p = omega arith in e)));
}

-- a sum over the elements of a list, by their indexes
pub sum_at : {X : Type 0} (g : Option X → ℕ) (look : ℕ → Option X) (from : ℕ) (xs : List X) → ((i : ℕ) → look (from + i) ≡ slice_get xs i) → sum (map (λ p. g (look p)) (count_up from (length xs))) ≡ sum_by (λ x. g (Some x)) xs
sum_at g look from [] found = refl
sum_at g look from (x ∷ xs) found =
    sum-cons (g (look from)) (map (λ p. g (look p)) (count_up (suc from) (length xs)))
    ∙ ap₂ (λ a b. a + b) (ap g (ap look (let e : from ≡ from + 0 = omega arith in e) ∙ found 0))
    (sum_at g look (suc from) xs (λ i. ap look (let e : suc from + i ≡ from + suc i = omega arith in e) ∙ found (suc i)))
    ∙ sym (sum_by-cons (λ x. g (Some x)) x xs)
  where
    sum-cons : (a : ℕ) (rest : List ℕ) → sum (a ∷ rest) ≡ a + sum rest
    sum-cons a rest = sum_by-cons (λ n. n) a rest
