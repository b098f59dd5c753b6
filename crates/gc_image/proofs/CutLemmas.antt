-- The lines of a text: its first line and the lines behind it.
use Rattle.std.proofs.Common.{◌≡◌, ◌==◌, ℕ, ◌+◌, ◌-◌, ◌≤◌, Bool, true, false, cond, nat_lt, List, [], ◌∷◌, length, take, drop, Option, Some, None, Bor, refl, sym, ap, subst, ◌∙◌, arith}
use Rattle.std.specs.List.{All, position, position_or_len, slice_split}
use Rattle.std.specs.Option.{option_map_or}
use Rattle.std.proofs.lemmas.Bool.{ltb-true, ltb-false}
use Rattle.std.proofs.lemmas.List.{take_rest}
use Rattle.std.proofs.lemmas.List.Splits.{slice_split_first, slice_split_none}
use Rattle.std.proofs.lemmas.List.Sums.{fails_before_first}

-- the lines of a rest that may be gone
abbrev pub lines_left : Option (Bor (List ℕ)) → List (List ℕ)
lines_left rest = option_map_or (λ text. slice_split (λ b. b == 10) text.now) rest []

found_by : (text : List ℕ) (k : ℕ) (inside : Bool) → nat_lt (position_or_len (λ b. b == 10) text) (length text) ≡ inside
    → cond inside (Some (position_or_len (λ b. b == 10) text)) None ≡ Some k → slice_split (λ b. b == 10) text ≡ take k text ∷ slice_split (λ b. b == 10) (drop (k + 1) text)
found_by text k true e found =
    let inside = ltb-true (position_or_len (λ b. b == 10) text) (length text) e in
    let same : position_or_len (λ b. b == 10) text ≡ k = cc in
    subst (λ j. slice_split (λ b. b == 10) text ≡ take j text ∷ slice_split (λ b. b == 10) (drop (j + 1) text)) same (slice_split_first (λ b. b == 10) text 0 inside)
found_by text k false e found = cc

-- the first line, and the lines behind it
pub first_line : (text : List ℕ) (k : ℕ) → position (λ b. b == 10) text ≡ Some k
    → slice_split (λ b. b == 10) text ≡ take k text ∷ slice_split (λ b. b == 10) (take (length text - (k + 1)) (drop (k + 1) text))
first_line text k found =
    found_by text k (nat_lt (position_or_len (λ b. b == 10) text) (length text)) refl found
    ∙ ap (λ rest. take k text ∷ slice_split (λ b. b == 10) rest) (sym (take_rest text (k + 1)))

none_by : (text : List ℕ) (inside : Bool) → nat_lt (position_or_len (λ b. b == 10) text) (length text) ≡ inside
    → cond inside (Some (position_or_len (λ b. b == 10) text)) None ≡ None → length text ≤ position_or_len (λ b. b == 10) text
none_by text true e none = cc
none_by text false e none = ltb-false (position_or_len (λ b. b == 10) text) (length text) e

pass_all : (text : List ℕ) → length text ≤ position_or_len (λ b. b == 10) text → All (λ b. (b == 10) ≡ false) text
pass_all text over = λ i d inside. fails_before_first (λ b. b == 10) text i d (omega arith)

-- a text without a line feed is one line
pub last_line : (text : List ℕ) → position (λ b. b == 10) text ≡ None → slice_split (λ b. b == 10) text ≡ text ∷ []
last_line text none =
    slice_split_none (λ b. b == 10) text (pass_all text (none_by text (nat_lt (position_or_len (λ b. b == 10) text) (length text)) refl none))
