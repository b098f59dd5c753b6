-- Lists of numbers, most of them places of a memory, as sets and as multisets.
use Rattle.std.specs.Prelude.{ℕ, ◌+◌, cond, nat_eq, List, [], ◌∷◌}

-- the number is one of the list
pub data In (x : ℕ) : List ℕ → Type 0 where
  here : {xs : List ℕ} → In x (x ∷ xs)
  there : {y : ℕ} {xs : List ℕ} → In x xs → In x (y ∷ xs)

-- a number for each place, summed; of the sizes the bytes that the objects take
abbrev pub sum_over : (ℕ → ℕ) → List ℕ → ℕ
sum_over f [] = 0
sum_over f (p ∷ ps) = f p + sum_over f ps

-- how often a number is one of the list
abbrev pub occ : ℕ → List ℕ → ℕ
occ x [] = 0
occ x (y ∷ ys) = cond (nat_eq x y) 1 0 + occ x ys
