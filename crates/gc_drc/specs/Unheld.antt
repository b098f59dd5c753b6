-- The plain law of counting: what it frees.
use Rattle.std.specs.Prelude.{ℕ}
use Rattle.gc_memory.specs.Lists.{In}
use Rattle.gc_drc.specs.Graph.{CountedGraph}

-- The least set that has in it each object that no root names and whose holders are all in the set. An object
-- of a cycle of garbage isn't in it.
pub data Unheld (g : CountedGraph) : ℕ → Type 0 where
  unheld : {p : ℕ} → In p g.places → (In p g.roots → ⊥) → (In p g.frames → ⊥)
      → ((q : ℕ) → In q g.places → In p (g.words q) → Unheld g q) → Unheld g p
