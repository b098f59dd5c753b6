-- What names what, where a collection begins.
use Rattle.std.specs.Prelude.{ℕ, ◌⊎◌, List}
use Rattle.gc_view.specs.Reach.{Reachable}
use Rattle.gc_memory.specs.Lists.{In, occ, sum_over}

-- The places of the objects; the words of the roots that are no frame slots, and of those that are; and the
-- words of each object's references, null and 31-bit numbers among them.
pub record CountedGraph : Type 0 where
  pub places : List ℕ
  pub roots : List ℕ
  pub frames : List ℕ
  pub words : ℕ → List ℕ

-- how often the objects at these places name a place
abbrev pub names : CountedGraph → List ℕ → ℕ → ℕ
names g places x = sum_over (λ (p : ℕ). occ x (g.words p)) places

-- The places that the roots and the frame slots reach.
abbrev pub CountingReached : CountedGraph → ℕ → Type 0
CountingReached g p = Reachable (λ (q : ℕ). In q g.places × (In q g.roots ⊎ In q g.frames)) (λ (from q : ℕ). In q g.places × In q (g.words from)) p
