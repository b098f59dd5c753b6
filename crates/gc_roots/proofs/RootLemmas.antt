-- What a list is after words were replaced: one by its index, or all in a walk.
use Rattle.std.proofs.Common.{◌≡◌, ◌≢◌, ◌<◌, ◌+◌, ◌++◌, ℕ, zero, suc, List, [], ◌∷◌, refl, ap, map, take, drop, length, arith}
use Rattle.std.proofs.lemmas.List.{length-set, get_or-set_same, get_or-set_other, get_or_default}
use Rattle.std.proofs.lemmas.Grind.{common_steps}
use Rattle.std.proofs.lemmas.List.Edits.{map_over_more}
use Rattle.gc_roots.specs.Roots.{Root, no_root, root_at, with_word, with_word_at, with_words}

-- there are as many roots
pub length-with_word_at : (roots : List Root) (i w : ℕ) → length (with_word_at roots i w) ≡ length roots
length-with_word_at roots i w = length-set roots i (with_word (root_at roots i) w)

-- the root of that index has the word
pub root_at-written : (roots : List Root) (i w : ℕ) → i < length roots → root_at (with_word_at roots i w) i ≡ with_word (root_at roots i) w
root_at-written roots i w inside = get_or-set_same roots i (with_word (root_at roots i) w) no_root inside

-- the others are as they were
pub root_at-other : (roots : List Root) (i j w : ℕ) → j ≢ i → root_at (with_word_at roots i w) j ≡ root_at roots j
root_at-other roots i j w other = get_or-set_other roots i j (with_word (root_at roots i) w) no_root other

-- where each word up to an index is f of what it was, one more is: f of the word that stands there replaces it
pub one_more_word : (f : ℕ → ℕ) (old new : List Root) (i : ℕ) → i < length old
    → new ≡ map (λ r. with_word r (f r.word)) (take i old) ++ drop i old
    → with_word_at new i (f (root_at new i).word) ≡ map (λ r. with_word r (f r.word)) (take (i + 1) old) ++ drop (i + 1) old
one_more_word f old new i inside e =
    let change : Root → Root = λ r. with_word r (f r.word) in
    let as_many : length new ≡ length old = grind (arith, common_steps, e) in
    map_over_more change old new i (root_at new i) inside e
    (get_or_default new i no_root (root_at new i) (omega (arith, as_many, inside)))

-- with other words there are as many roots, each with its number and its flag
pub length-with_words : (roots : List Root) (words : List ℕ) → length (with_words roots words) ≡ length roots
length-with_words [] words = refl
length-with_words (first ∷ rest) [] = refl
length-with_words (first ∷ rest) (word ∷ words) = ap suc (length-with_words rest words)

pub place-with_words : (roots : List Root) (words : List ℕ) (i : ℕ) → (root_at (with_words roots words) i).place ≡ (root_at roots i).place
place-with_words [] words i = refl
place-with_words (first ∷ rest) [] i = refl
place-with_words (first ∷ rest) (word ∷ words) zero = refl
place-with_words (first ∷ rest) (word ∷ words) (suc i) = place-with_words rest words i

pub on_stack-with_words : (roots : List Root) (words : List ℕ) (i : ℕ) → (root_at (with_words roots words) i).on_stack ≡ (root_at roots i).on_stack
on_stack-with_words [] words i = refl
on_stack-with_words (first ∷ rest) [] i = refl
on_stack-with_words (first ∷ rest) (word ∷ words) zero = refl
on_stack-with_words (first ∷ rest) (word ∷ words) (suc i) = on_stack-with_words rest words i
