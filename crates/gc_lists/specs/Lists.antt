-- The list of numbers that a reference is.
use Rattle.std.specs.Prelude.{◌≡◌, ℕ, ℤ, List, [], ◌∷◌}
use Rattle.gc_types.specs.Declarations.{Declaration}
use Rattle.gc_model.specs.Values.{Reference, null, Object}
use Rattle.gc_lists.specs.Cells.{IsCell, IsNullOr}

-- null is the empty list, and a cell is its number in front of the list that its next cell is
abbrev pub IsList : {D : Type 0} → List Declaration → List (Object D) → Reference → List ℤ → Type 0
IsList types objects r [] = r ≡ null
IsList types objects r (x ∷ xs) = (next : Reference) × (IsCell types objects r x next × IsList types objects next xs)

-- the same, and its first cell is of that type, where it has one
abbrev pub IsListOf : {D : Type 0} → List Declaration → List (Object D) → ℕ → List ℤ → Reference → Type 0
IsListOf types objects ty xs r = IsList types objects r xs × IsNullOr objects ty r
