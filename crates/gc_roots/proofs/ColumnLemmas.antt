-- Roots as two lists that are equally long.
use Rattle.std.proofs.Common.{◌≡◌, ℕ, zero, suc, ◌+◌, ◌-◌, ◌<◌, ◌≤◌, min, false, List, [], ◌∷◌, ◌++◌, length, get_or, set, take, drop, refl, ap, arith}
use Rattle.std.proofs.lemmas.List.{take_all}
use Rattle.gc_roots.specs.declared.entry.Origin.{Origin}
use Rattle.gc_roots.specs.Roots.{root_at, with_word_at, with_words}
use Rattle.gc_roots.specs.Columns.{root_of, paired_roots}

-- where no words are left, no roots are
pub roots_of-none : (origins : List Origin) (words : List ℕ) → length words ≡ 0 → paired_roots origins words ≡ []
roots_of-none [] words none = refl
roots_of-none (origin ∷ origins) [] none = refl
roots_of-none (origin ∷ origins) (word ∷ words) none = absurd (omega arith)

pub length-roots_of : (origins : List Origin) (words : List ℕ) → length origins ≡ length words → length (paired_roots origins words) ≡ length words
length-roots_of [] words same = same
length-roots_of (origin ∷ origins) [] same = omega arith
length-roots_of (origin ∷ origins) (word ∷ words) same = ap suc (length-roots_of origins words (omega arith))

-- one more of each is one more root
pub roots_of-push : (origins : List Origin) (words : List ℕ) (o : Origin) (w : ℕ) → length origins ≡ length words
    → paired_roots (origins ++ o ∷ []) (words ++ w ∷ []) ≡ paired_roots origins words ++ root_of o w ∷ []
roots_of-push [] [] o w same = refl
roots_of-push [] (word ∷ words) o w same = absurd (omega arith)
roots_of-push (origin ∷ origins) [] o w same = absurd (omega arith)
roots_of-push (origin ∷ origins) (word ∷ words) o w same =
    ap (λ rest. root_of origin word ∷ rest) (roots_of-push origins words o w (omega arith))

-- the root of an index is made of what stands there
pub roots_of-at : (origins : List Origin) (words : List ℕ) (i : ℕ) (o : Origin) (w : ℕ) → length origins ≡ length words → i < length words
    → root_at (paired_roots origins words) i ≡ root_of (get_or origins i o) (get_or words i w)
roots_of-at [] words i o w same inside = absurd (omega arith)
roots_of-at (origin ∷ origins) [] i o w same inside = absurd (omega arith)
roots_of-at (origin ∷ origins) (word ∷ words) zero o w same inside = refl
roots_of-at (origin ∷ origins) (word ∷ words) (suc i) o w same inside = roots_of-at origins words i o w (omega arith) (omega arith)

-- in particular its word is the one that stands there
pub word_of-at : (origins : List Origin) (words : List ℕ) (i w : ℕ) → length origins ≡ length words → i < length words
    → (root_at (paired_roots origins words) i).word ≡ get_or words i w
word_of-at origins words i w same inside =
    ap (λ r. r.word) (roots_of-at origins words i (record { place = record { number = 0 }; is_on_wasm_stack = false }) w same inside)

-- a word that is written is the word of that root
pub roots_of-set : (origins : List Origin) (words : List ℕ) (i w : ℕ) → length origins ≡ length words
    → paired_roots origins (set words i w) ≡ with_word_at (paired_roots origins words) i w
roots_of-set [] words i w same = refl
roots_of-set (origin ∷ origins) [] i w same = absurd (omega arith)
roots_of-set (origin ∷ origins) (word ∷ words) zero w same = refl
roots_of-set (origin ∷ origins) (word ∷ words) (suc i) w same =
    ap (λ rest. root_of origin word ∷ rest) (roots_of-set origins words i w (omega arith))

-- words that are left behind, as many as there were, are the words of the roots
pub roots_of-refill : (origins : List Origin) (words left : List ℕ) (n : ℕ) → length origins ≡ length words → n ≡ length words
    → paired_roots origins (take n (left ++ drop (length left) words)) ≡ with_words (paired_roots origins words) left
roots_of-refill [] words left n same all = refl
roots_of-refill (origin ∷ origins) [] left n same all = absurd (omega arith)
roots_of-refill (origin ∷ origins) (word ∷ words) [] n same all =
    ap (λ ws. paired_roots (origin ∷ origins) ws) (take_all n (word ∷ words) (omega arith))
roots_of-refill (origin ∷ origins) (word ∷ words) (first ∷ left) zero same all = absurd (omega arith)
roots_of-refill (origin ∷ origins) (word ∷ words) (first ∷ left) (suc n) same all =
    ap (λ rest. root_of origin first ∷ rest) (roots_of-refill origins words left n (omega arith) (omega arith))

-- the places of the roots that are dropped are spare
pub all_spare : (a b n a' b' n' spare count : ℕ) → a' ≡ a → b' ≡ b → n' ≡ 0 → n ≤ a → n ≤ b → min a b - n ≡ spare → n ≡ count
    → min a' b' - n' ≡ spare + count
all_spare a b n a' b' n' spare count same_a same_b none below below' left all = grind (arith, same_a, same_b, none, left, all)
