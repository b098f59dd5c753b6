-- Words for the elements of a list, as far as a loop has come.
use Rattle.std.proofs.Common.{◌≡◌, ℕ, ◌+◌, ◌<◌, ◌≤◌, List, [], ◌∷◌, ◌++◌, length, get_or, take, Option, Some, All, sym, ap, subst, ◌∙◌, arith, unwrap_or, option_map}
use Rattle.std.specs.List.{AllZip, slice_get}
use Rattle.std.proofs.lemmas.List.{take_all, take_more}
use Rattle.std.proofs.lemmas.Option.{slice_get-get_or}
use Rattle.gc_image_write.specs.TypeWords.{AreWordsOf}

-- an element of a list
pub element : {A : Type 0} (xs : List A) (i : ℕ) → i < length xs → (x : A) × (slice_get xs i ≡ Some x)
element [] i below = absurd (omega arith)
element (x ∷ xs) i below = (get_or (x ∷ xs) i x, slice_get-get_or (x ∷ xs) i x below)

zip_push : {A W : Type 0} (R : A → W → Type 0) (xs : List A) (ws : List W) (x : A) (w : W) → AllZip R xs ws → R x w → AllZip R (xs ++ x ∷ []) (ws ++ w ∷ [])
zip_push R [] [] x w all here = (here, tt)
zip_push R [] (v ∷ ws) x w all here = absurd all
zip_push R (y ∷ xs) [] x w all here = absurd all
zip_push R (y ∷ xs) (v ∷ ws) x w all here = (all.0, zip_push R xs ws x w all.1 here)

module _ {A W : Type 0} (Words : A → Option W → Type 0) where
  -- the words of the elements before the i-th, of each list that there may be
  abbrev pub WordsSoFar : (List A → Type 0) → ℕ → List W → Type 0
  WordsSoFar IsList i words = (xs : List A) → IsList xs → AreWordsOf Words (take i xs) words

  pub words_more : (xs : List A) (i : ℕ) (words : List W) (w : W) → AreWordsOf Words (take i xs) words → i < length xs → ((x : A) → slice_get xs i ≡ Some x → Words x (Some w))
      → AreWordsOf Words (take (i + 1) xs) (words ++ w ∷ [])
  words_more [] i words w so_far below here = absurd (omega arith)
  words_more (y ∷ ys) i words w so_far below here =
      let x = get_or (y ∷ ys) i y in
      subst (λ zs. AreWordsOf Words zs (words ++ w ∷ [])) (sym (take_more (y ∷ ys) i y below))
      (zip_push (λ z v. Words z (Some v)) (take i (y ∷ ys)) words x w so_far (here x (slice_get-get_or (y ∷ ys) i y below)))

  pub words_all : (xs : List A) (i : ℕ) (words : List W) → AreWordsOf Words (take i xs) words → length xs ≤ i → AreWordsOf Words xs words
  words_all xs i words so_far over = subst (λ zs. AreWordsOf Words zs words) (take_all i xs over) so_far

-- one that isn't plain
pub not_plain : {A : Type 0} (Plain : A → Type 0) (xs : List A) (i : ℕ) → i < length xs → ((x : A) → slice_get xs i ≡ Some x → ¬ Plain x) → ¬ All Plain xs
not_plain Plain [] i below here all = absurd (omega arith)
not_plain Plain (y ∷ ys) i below here all = here (get_or (y ∷ ys) i y) (slice_get-get_or (y ∷ ys) i y below) (all i y below)

-- how many there are
pub counted : {A : Type 0} (at : Option (List A)) (xs : List A) (found : Option ℕ) (count : ℕ) → at ≡ Some xs → found ≡ option_map length at → count ≡ unwrap_or found 0 → count ≡ length xs
counted at xs found count is measured e = e ∙ ap (λ f. unwrap_or f 0) (measured ∙ ap (option_map length) is)
