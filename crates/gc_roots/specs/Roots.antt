-- What contracts see of a list of roots.
use Rattle.std.specs.Prelude.{[], ◌∷◌, ℕ, Bool, false, List, slice_index_or, slice_set}

-- a root: the number that its owner knows it by, whether it is a slot of a wasm frame, and its word
pub record Root : Type 0 where
  pub place : ℕ
  pub on_stack : Bool
  pub word : ℕ

-- the root of these parts
abbrev pub root : ℕ → Bool → ℕ → Root
root place on_stack word = record { place = place; on_stack = on_stack; word = word }

-- the roots in order, and the number of spare places: so many more can be added without taking memory
pub record Roots : Type 0 where
  pub roots : List Root
  pub spare : ℕ

-- the root with another word
abbrev pub with_word : Root → ℕ → Root
with_word old word = root old.place old.on_stack word

-- what stands at an index past the end
abbrev pub no_root : Root
no_root = root 0 false 0

-- the root of that index
abbrev pub root_at : List Root → ℕ → Root
root_at roots index = slice_index_or roots index no_root

-- the roots, one of them with another word
abbrev pub with_word_at : List Root → ℕ → ℕ → List Root
with_word_at roots index word = slice_set roots index (with_word (root_at roots index) word)

-- the roots with these words in their order; where they are fewer, the other roots keep theirs
abbrev pub with_words : List Root → List ℕ → List Root
with_words [] words = []
with_words (first ∷ rest) [] = first ∷ rest
with_words (first ∷ rest) (word ∷ words) = with_word first word ∷ with_words rest words
