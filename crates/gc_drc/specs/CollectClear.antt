-- The second walk over held blocks, which clears the marks.
use Rattle.std.specs.Prelude.{◌≡◌, ℕ, ◌<◌, List, []}
use Rattle.gc_memory.specs.Lists.{In, occ}
use Rattle.gc_drc.specs.declared.space.CountedSpace.{CountedSpace}
use Rattle.gc_drc.specs.View.{View}
use Rattle.gc_drc.specs.CollectStates.{Done}
use Rattle.gc_drc.specs.CollectMemory.{Context, At}

-- Held is what is reached, and all of it is marked.
pub record AllMarked (c : Context) (places : List ℕ) (s : CountedSpace) : Type 0 where
  pub view : View
  pub at : At c view s
  pub done : Done c.graph view
  pub places_are : view.places ≡ places
  pub marks : (p : ℕ) → In p places → 0 < occ p view.marked

-- Held is what is reached, and nothing is marked.
pub record Unmarked (c : Context) (places : List ℕ) (s : CountedSpace) : Type 0 where
  pub view : View
  pub at : At c view s
  pub done : Done c.graph view
  pub places_are : view.places ≡ places
  pub none_marked : view.marked ≡ []
