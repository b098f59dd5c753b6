-- What a reader answers: of one word, of the first word that is left, of all of them.
use Rattle.std.specs.Prelude.{◌≡◌, ◌⊎◌, List, ◌∷◌, ℕ, Option, None, Some, codes, slice_index}
use Rattle.std.specs.Int.{IsInRange}

-- the value that the text spells, and nothing where it spells none
abbrev pub Reads : {A B : Type 0} → (A → Type 0) → (A → B) → B → Option A → Type 0
Reads {A} Fits spelled text None = (x : A) → Fits x → ¬ (text ≡ spelled x)
Reads Fits spelled text (Some x) = Fits x × (text ≡ spelled x)

-- the value that the first word spells, and the words behind it; nothing where the first word spells none
abbrev pub ReadsFirst : {A : Type 0} → (A → Type 0) → (A → List ℕ) → List (List ℕ) → Option A → List (List ℕ) → Type 0
ReadsFirst {A} Fits spelled words None rest = (x : A) (others : List (List ℕ)) → Fits x → ¬ (words ≡ spelled x ∷ others)
ReadsFirst Fits spelled words (Some x) rest = Fits x × (words ≡ spelled x ∷ rest)

-- the text is 0, or begins with another digit
abbrev pub IsPlain : List ℕ → Type 0
IsPlain text = (text ≡ codes "0") ⊎ IsInRange 49 57 (slice_index text 0)
