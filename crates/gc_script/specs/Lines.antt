-- The lines of an input.
use Rattle.std.specs.Prelude.{◌==◌, ℕ, List, [], ◌∷◌, if◌then◌else◌}
use Rattle.std.specs.List.{onto_first}

-- ends a line
abbrev pub line_feed : ℕ
line_feed = 10

-- the pieces that end with a line feed, without it, and a last piece that isn't empty
abbrev pub lines : List ℕ → List (List ℕ)
lines [] = []
lines (b ∷ bytes) = if b == line_feed then [] ∷ lines bytes else onto_first b (lines bytes)
