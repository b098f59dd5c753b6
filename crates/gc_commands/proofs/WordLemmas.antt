-- The words of a line, and the line of words.
use Rattle.std.proofs.Common.{◌≡◌, ◌==◌, ℕ, ◌+◌, ◌<◌, ◌≤◌, Bool, true, false, cond, not, nat_lt, eqb, List, [], ◌∷◌, ◌++◌, length, take, drop, get_or, refl, sym, ap, ◌∙◌, arith, Option, None, Some, Bor, length-take, length-take-le, take-append-drop}
use Rattle.std.specs.List.{slice_split, onto_first, position, position_or_len}
use Rattle.std.specs.Option.{option_map_or}
use Rattle.std.proofs.lemmas.Bool.{eqb-true, lt-ltb, ltb-false, ltb-true}
use Rattle.std.proofs.lemmas.List.{drop_more, get_or-take, get_or_default, take_all}
use Rattle.std.proofs.lemmas.List.Folds.{prefix_len-append}
use Rattle.std.proofs.lemmas.List.Quantifiers.{position-Some}
use Rattle.std.proofs.lemmas.List.Splits.{slice_split_at}
use Rattle.std.proofs.lemmas.List.Sums.{prefix_len-le-length}

-- the words of a rest that may be gone
abbrev pub words_left : Option (Bor (List ℕ)) → List (List ℕ)
words_left rest = option_map_or (λ line. slice_split (λ b. b == 32) line.now) rest []

one_word_by : (b : ℕ) (line : List ℕ) (space : Bool) → (position_or_len (λ c. c == 32) line ≡ length line → slice_split (λ c. c == 32) line ≡ line ∷ [])
    → cond (not space) (1 + position_or_len (λ c. c == 32) line) 0 ≡ length (b ∷ line)
    → cond space ([] ∷ slice_split (λ c. c == 32) line) (onto_first b (slice_split (λ c. c == 32) line)) ≡ (b ∷ line) ∷ []
one_word_by b line true behind e = absurd (omega arith)
one_word_by b line false behind e = ap (onto_first b) (behind (omega arith))

-- a line without a space is one word
pub one_word : (line : List ℕ) → position_or_len (λ b. b == 32) line ≡ length line → slice_split (λ b. b == 32) line ≡ line ∷ []
one_word [] e = refl
one_word (b ∷ line) e = one_word_by b line (b == 32) (one_word line) e

-- a line, cut at its first space
cut_at : (line : List ℕ) (k : ℕ) → position (λ b. b == 32) line ≡ Some k → line ≡ take k line ++ 32 ∷ drop (k + 1) line
cut_at line k found =
    let first = position-Some (λ b. b == 32) line k 0 found in
    let space : get_or line k 0 ≡ 32 = eqb-true (get_or line k 0) 32 first.1 in
    sym (take-append-drop k line) ∙ ap (λ r. take k line ++ r) (drop_more line k 0 first.0 ∙ ap (λ b. b ∷ drop (k + 1) line) space)

-- the first word and the words behind it
pub first_word : (line : List ℕ) (k : ℕ) → position (λ b. b == 32) line ≡ Some k → slice_split (λ b. b == 32) line ≡ take k line ∷ slice_split (λ b. b == 32) (drop (k + 1) line)
first_word line k found =
    let first = position-Some (λ b. b == 32) line k 0 found in
    let within = first.0 in
    let long : length (take k line) ≡ k = length-take-le k line (omega (arith, within)) in
    ap (slice_split (λ b. b == 32)) (cut_at line k found) ∙ slice_split_at (λ b. b == 32) (take k line) 32 (drop (k + 1) line)
    (λ j d inside.
    let below : j < k = omega (arith, inside, long) in
    sym (ap (λ b. b == 32) (get_or_default line j 0 d (omega (arith, below, within)) ∙ sym (get_or-take k line j d below))) ∙ first.2 j below) refl

unfound_by : (k n : ℕ) (inside : Bool) → nat_lt k n ≡ inside → k ≤ n → cond inside (Some k) None ≡ None → k ≡ n
unfound_by k n true e within none = cc
unfound_by k n false e within none = let past = ltb-false k n e in omega arith

-- a line in which no space was found
pub no_space_found : (line : List ℕ) → position (λ b. b == 32) line ≡ None → slice_split (λ b. b == 32) line ≡ line ∷ []
no_space_found line none =
    let k = position_or_len (λ b. b == 32) line in
    one_word line (unfound_by k (length line) (nat_lt k (length line)) refl (prefix_len-le-length (λ b. not (b == 32)) line) none)

-- how long the front of a line is before its first space
space_behind : (n : ℕ) (line : List ℕ) → position_or_len (λ b. b == 32) line ≡ cond (eqb (position_or_len (λ b. b == 32) (take n line)) (length (take n line))) (length (take n line) + position_or_len (λ b. b == 32) (drop n line)) (position_or_len (λ b. b == 32) (take n line))
space_behind n line = ap (position_or_len (λ b. b == 32)) (sym (take-append-drop n line)) ∙ prefix_len-append (λ b. not (b == 32)) (take n line) (drop n line)

found_by : (k len : ℕ) (inside : Bool) (r : ℕ) → nat_lt k len ≡ inside → cond inside (Some k) None ≡ Some r → (k ≡ r) × (k < len)
found_by k len true r e some = (cc, ltb-true k len e)
found_by k len false r e some = cc

found_at : (line : List ℕ) (k : ℕ) → position (λ b. b == 32) line ≡ Some k → (position_or_len (λ b. b == 32) line ≡ k) × (position_or_len (λ b. b == 32) line < length line)
found_at line k some = found_by (position_or_len (λ b. b == 32) line) (length line) (nat_lt (position_or_len (λ b. b == 32) line) (length line)) k refl some

-- a space that is found in the front of a line is its first
pub space_in_front : (n : ℕ) (line : List ℕ) (k : ℕ) → position (λ b. b == 32) (take n line) ≡ Some k → position (λ b. b == 32) line ≡ Some k
space_in_front n line k some =
    let at = found_at (take n line) k some in
    let behind = space_behind n line in
    let long = length-take n line in
    let whole : position_or_len (λ b. b == 32) line ≡ k = grind (arith, at, behind) in
    let inside : k < length line = omega (arith, at.0, at.1, long) in
    ap (λ i. cond (nat_lt i (length line)) (Some i) None) whole ∙ ap (λ b. cond b (Some k) None) (lt-ltb k (length line) inside)

-- where the front of a line has no space, its first word is that front, or at least as long
pub no_space_in_front : (n : ℕ) (line word : List ℕ) (rest : List (List ℕ)) → position (λ b. b == 32) (take n line) ≡ None → slice_split (λ b. b == 32) line ≡ word ∷ rest → length word < n → word ≡ take n line
no_space_in_front n line word rest none cut short = by_space n line word rest none cut short (position (λ b. b == 32) line) refl
  where
    by_space : (n : ℕ) (line word : List ℕ) (rest : List (List ℕ)) → position (λ b. b == 32) (take n line) ≡ None → slice_split (λ b. b == 32) line ≡ word ∷ rest → length word < n → (at : Option ℕ) → position (λ b. b == 32) line ≡ at → word ≡ take n line
    by_space n line word rest none cut short None e =
        let same : word ≡ line = ap (λ (ws : List (List ℕ)). get_or ws 0 []) (sym cut ∙ no_space_found line e) in
        same ∙ sym (take_all n line (omega (arith, short, ap length same)))
    by_space n line word rest none cut short (Some k) e =
        let same : word ≡ take k line = ap (λ (ws : List (List ℕ)). get_or ws 0 []) (sym cut ∙ first_word line k e) in
        let at = found_at line k e in
        let long : length (take k line) ≡ k = length-take-le k line (omega (arith, at.0, at.1)) in
        let past = unfound_by (position_or_len (λ b. b == 32) (take n line)) (length (take n line)) (nat_lt (position_or_len (λ b. b == 32) (take n line)) (length (take n line))) refl (prefix_len-le-length (λ b. not (b == 32)) (take n line)) none in
        let behind : position_or_len (λ b. b == 32) line ≡ length (take n line) + position_or_len (λ b. b == 32) (drop n line) = grind (arith, past, space_behind n line) in
        absurd (omega (arith, at.0, at.1, long, behind, ap length same, short, length-take n line))
