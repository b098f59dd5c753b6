-- Objects that follow each other in a memory, by their places.
use Rattle.std.specs.Prelude.{◌≡◌, ℕ, zero, suc, ◌+◌, ◌%◌, ◌≤◌, cond, nat_lt, List, [], ◌∷◌}
use Rattle.gc_view.specs.Sizes.{alignment}

-- Objects of these sizes follow each other from the first number up to the second, at the listed places.
-- Each takes a multiple of 16 bytes, and at least 16.
pub data Chain (size : ℕ → ℕ) : ℕ → ℕ → List ℕ → Type 0 where
  done : {a : ℕ} → Chain size a a []
  next : {a e : ℕ} {ps : List ℕ} → alignment ≤ size a → size a % alignment ≡ 0 → Chain size (a + size a) e ps → Chain size a e (a ∷ ps)

-- the places of at most so many objects from a up to e, read from their sizes
abbrev pub bounded_places : ℕ → (ℕ → ℕ) → ℕ → ℕ → List ℕ
bounded_places zero size a e = []
bounded_places (suc n) size a e = cond (nat_lt a e) (a ∷ bounded_places n size (a + size a) e) []

-- the places of all objects from a up to e
abbrev pub places : (ℕ → ℕ) → ℕ → ℕ → List ℕ
places size a e = bounded_places e size a e
