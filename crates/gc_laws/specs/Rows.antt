-- A worked session.
use Rattle.std.specs.Prelude.{ℕ, List, ◌∷◌, [], ◌++◌, codes}
use Rattle.gc_script.specs.Lines.{line_feed}

-- the text with a line feed, and others behind it
abbrev pub with_line : List ℕ → List ℕ → List ℕ
with_line text rest = text ++ line_feed ∷ rest

-- three lines that make a struct and read its field
abbrev pub one_struct : List ℕ
one_struct = with_line (codes "struct m:i32") (with_line (codes "new 1 0 i32:5") (with_line (codes "field 1 0") []))

-- their replies
abbrev pub one_struct_replies : List ℕ
one_struct_replies = with_line (codes "type 0") (with_line (codes "ok") (with_line (codes "i32 5") []))
