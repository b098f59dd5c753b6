-- The list of shown words while it is swept.
use Rattle.std.specs.Prelude.{ℕ, List, [], ◌∷◌}

-- a list behind another one, whose last is given first
abbrev pub onto : List ℕ → List ℕ → List ℕ
onto [] left = left
onto (x ∷ xs) left = onto xs (x ∷ left)

-- the first of a list, or 0 where there is none
abbrev pub front : List ℕ → ℕ
front [] = 0
front (x ∷ xs) = x
