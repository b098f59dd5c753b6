-- A list of roots as it lies: what each is known by, and beside it its word.
use Rattle.std.specs.Prelude.{ℕ, List, [], ◌∷◌}
use Rattle.gc_roots.specs.declared.entry.Origin.{Origin}
use Rattle.gc_roots.specs.Roots.{Root, root}

-- the root that came from there, with that word
abbrev pub root_of : Origin → ℕ → Root
root_of origin word = root origin.place.number origin.is_on_wasm_stack word

-- the roots of two lists that are equally long
abbrev pub paired_roots : List Origin → List ℕ → List Root
paired_roots [] words = []
paired_roots (origin ∷ origins) [] = []
paired_roots (origin ∷ origins) (word ∷ words) = root_of origin word ∷ paired_roots origins words
