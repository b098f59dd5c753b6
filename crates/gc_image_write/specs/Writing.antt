-- What the writers of an image append.
use Rattle.std.specs.Prelude.{ℕ, List, ◌∷◌}
use Rattle.std.specs.List.{flat_map}
use Rattle.gc_image.specs.Text.{ended_line}

-- words with a space in front of each
abbrev pub spaced_texts : {A : Type 0} → (A → List ℕ) → List A → List ℕ
spaced_texts text words = flat_map (λ word. 32 ∷ text word) words

-- a line for each
abbrev pub lines_of : {A : Type 0} → (A → List ℕ) → List A → List ℕ
lines_of text parts = flat_map (λ part. ended_line (text part)) parts
