-- Reading words one after the other.
use Rattle.std.proofs.Common.{◌≡◌, ℕ, List, [], ◌∷◌, ◌++◌, map, sym, ap, ◌∙◌}
use Rattle.std.specs.List.{AllByRecursion}

none_after : {A : Type 0} (Fits : A → Type 0) (text : A → List ℕ) (rest : List (List ℕ)) (word : List ℕ) → ((x : A) → Fits x → word ≡ text x → ⊥)
    → (done others : List A) → AllByRecursion Fits others → map text done ++ word ∷ rest ≡ map text others → ⊥
none_after Fits text rest word none [] [] all e = cc
none_after Fits text rest word none [] (x ∷ others) all e = none x all.0 cc
none_after Fits text rest word none (y ∷ done) [] all e = cc
none_after Fits text rest word none (y ∷ done) (x ∷ others) all e = none_after Fits text rest word none done others all.1 cc

-- where one word spells nothing, the words together spell nothing
pub words_none : {A : Type 0} (Fits : A → Type 0) (text : A → List ℕ) (words left rest : List (List ℕ)) (word : List ℕ) (done : List A) → words ≡ map text done ++ left → left ≡ word ∷ rest
    → ((x : A) → Fits x → word ≡ text x → ⊥) → (others : List A) → AllByRecursion Fits others → words ≡ map text others → ⊥
words_none Fits text words left rest word done read next none others all e =
    none_after Fits text rest word none done others all (sym (read ∙ ap (λ l. map text done ++ l) next) ∙ e)
