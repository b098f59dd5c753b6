-- The kinds of types with one more declared, and what words spell among these.
use Rattle.std.proofs.Common.{◌≡◌, ◌==◌, ℕ, ◌≤◌, suc, zero, Bool, true, false, List, [], ◌∷◌, ◌++◌, length, Option, Some, All, if◌then◌else◌, refl, sym, ap, ap₂, subst}
use Rattle.std.specs.List.{AllByRecursion, slice_get}
use Rattle.std.specs.Option.{option_map}
use Rattle.std.proofs.lemmas.List.Elements.{All-cons, All-head, All-nil, All-tail}
use Rattle.std.proofs.lemmas.Bool.{eqb-false, eqb-true}
use Rattle.gc_types.specs.declared.kind.TypeKind.{TypeKind}
use Rattle.gc_types.specs.Declarations.{Declaration, kind_at, max_types, shape_kind}
use Rattle.gc_model.proofs.Lists.{slice_get-push_new}
use Rattle.gc_commands.specs.TypeWords.{each_of, kinds_with, with_first}
use Rattle.gc_image_write.specs.TypeWords.{AreWordsOf, IsTypeWordOf, Worded}

-- any but the last stands where it stood
push_other : {X : Type 0} (xs : List X) (y : X) (n : ℕ) → ¬ (n ≡ length xs) → slice_get (xs ++ y ∷ []) n ≡ slice_get xs n
push_other [] y zero other = absurd (other refl)
push_other [] y (suc n) other = refl
push_other (x ∷ xs) y zero other = refl
push_other (x ∷ xs) y (suc n) other = push_other xs y n (λ e. other (ap suc e))

-- the kinds with one more
grown_by : (types : List Declaration) (d : Declaration) (n : ℕ) (is : Bool) → (n == length types) ≡ is
    → (if is then Some (shape_kind d.shape) else kind_at types n) ≡ kind_at (types ++ d ∷ []) n
grown_by types d n true e =
    let last : slice_get (types ++ d ∷ []) n ≡ Some d = subst (λ m. slice_get (types ++ d ∷ []) m ≡ Some d) (sym (eqb-true n (length types) e)) (slice_get-push_new types d) in
    sym (ap (option_map (λ (t : Declaration). shape_kind t.shape)) last)
grown_by types d n false e = sym (ap (option_map (λ (t : Declaration). shape_kind t.shape)) (push_other types d n (eqb-false n (length types) e)))

grown_kind : (types : List Declaration) (d : Declaration) (n : ℕ) → kinds_with types (shape_kind d.shape) n ≡ kind_at (types ++ d ∷ []) n
grown_kind types d n = grown_by types d n (n == length types) refl

pub grown_kinds : (types : List Declaration) (d : Declaration) → kinds_with types (shape_kind d.shape) ≡ kind_at (types ++ d ∷ [])
grown_kinds types d = λ i n. grown_kind types d n i

module _ {A W : Type 0} (Plain : A → Type 0) (Known : List Declaration → A → Type 0) (Fits : W → Type 0) (read : (ℕ → Option TypeKind) → W → Option A) where
  -- words of a list that the types know spell it, and fit
  pub words_spell : (types : List Declaration) (xs : List A) (words : List W) → All (Known types) xs → AreWordsOf (Worded Plain (IsTypeWordOf Known Fits read)) xs words
      → each_of (read (kind_at types)) words ≡ Some xs
  words_spell types [] [] known all = refl
  words_spell types [] (w ∷ words) known all = absurd all
  words_spell types (x ∷ xs) [] known all = absurd all
  words_spell types (x ∷ xs) (w ∷ words) known all =
      ap₂ with_first (all.0.1.spelled types (All-head (Known types) x xs known)) (words_spell types xs words (All-tail (Known types) x xs known) all.1)

  pub words_fit : (types : List Declaration) (xs : List A) (words : List W) → length types ≤ max_types → All (Known types) xs → AreWordsOf (Worded Plain (IsTypeWordOf Known Fits read)) xs words
      → AllByRecursion Fits words
  words_fit types [] [] few known all = tt
  words_fit types [] (w ∷ words) few known all = absurd all
  words_fit types (x ∷ xs) [] few known all = absurd all
  words_fit types (x ∷ xs) (w ∷ words) few known all =
      (all.0.1.fits types few (All-head (Known types) x xs known), words_fit types xs words few (All-tail (Known types) x xs known) all.1)

  pub words_plain : (xs : List A) (words : List W) → AreWordsOf (Worded Plain (IsTypeWordOf Known Fits read)) xs words → All Plain xs
  words_plain [] words all = All-nil Plain
  words_plain (x ∷ xs) [] all = absurd all
  words_plain (x ∷ xs) (w ∷ words) all = All-cons Plain x xs all.0.0 (words_plain xs words all.1)
