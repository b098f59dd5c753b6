-- What words spell, one after the other.
use Rattle.std.proofs.Common.{◌≡◌, ℕ, ◌+◌, ◌<◌, ◌≤◌, List, [], ◌∷◌, ◌++◌, drop, length, get_or, Option, Some, None, refl, sym, ap, ◌∙◌, append_assoc, add-one, drop-cons, suc}
use Rattle.std.specs.Option.{option_map}
use Rattle.std.proofs.lemmas.List.{append-nil, drop_all}
use Rattle.gc_commands.specs.TypeWords.{each_of, with_first}

module _ {B : Type 0} where
  -- some things in front of others, where these are there
  abbrev pub in_front : List B → Option (List B) → Option (List B)
  in_front xs o = option_map (λ (ys : List B). xs ++ ys) o

  in_front-nil : (o : Option (List B)) → o ≡ in_front [] o
  in_front-nil None = refl
  in_front-nil (Some ys) = refl

  in_front-onto : (xs : List B) (x : B) (o : Option (List B)) → in_front xs (with_first (Some x) o) ≡ in_front (xs ++ x ∷ []) o
  in_front-onto xs x None = refl
  in_front-onto xs x (Some ys) = ap Some (sym (append_assoc xs (x ∷ []) ys))

module _ {A B : Type 0} (read : A → Option B) (words : List A) where
  -- What was read stands in front of what the words left spell.
  abbrev pub SpelledSoFar : List B → ℕ → Type 0
  SpelledSoFar xs i = each_of read words ≡ in_front xs (each_of read (drop i words))

  pub spelled_none : SpelledSoFar [] 0
  spelled_none = in_front-nil (each_of read words)

  module _ (xs : List B) (i : ℕ) (w : A) (so_far : SpelledSoFar xs i) (below : i < length words) (is : w ≡ get_or words i w) where
    spelled_here : (o : Option B) → read w ≡ o → each_of read words ≡ in_front xs (with_first o (each_of read (drop (i + 1) words)))
    spelled_here o e =
        so_far
        ∙ ap (λ (ws : List A). in_front xs (each_of read ws)) (drop-cons words i w below)
        ∙ ap (λ (x : A). in_front xs (with_first (read x) (each_of read (drop (suc i) words)))) (sym is)
        ∙ ap (λ (n : ℕ). in_front xs (with_first (read w) (each_of read (drop n words)))) (sym (add-one i))
        ∙ ap (λ (x : Option B). in_front xs (with_first x (each_of read (drop (i + 1) words)))) e

    -- one more was read
    pub spelled_more : (x : B) → read w ≡ Some x → SpelledSoFar (xs ++ x ∷ []) (i + 1)
    spelled_more x e = spelled_here (Some x) e ∙ in_front-onto xs x (each_of read (drop (i + 1) words))

    -- one spells nothing
    pub spelled_bad : read w ≡ None → each_of read words ≡ None
    spelled_bad e = spelled_here None e

  -- all were read
  pub spelled_all : (xs : List B) (i : ℕ) → length words ≤ i → SpelledSoFar xs i → each_of read words ≡ Some xs
  spelled_all xs i over so_far =
      so_far ∙ ap (λ (ws : List A). in_front xs (each_of read ws)) (drop_all i words over) ∙ ap Some (append-nil xs)
