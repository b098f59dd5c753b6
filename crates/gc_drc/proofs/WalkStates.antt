-- The walks over held blocks, on the way.
use Rattle.std.proofs.Common.{◌≡◌, ℕ, ◌<◌, ◌≤◌, List}
use Rattle.std.proofs.Math.Logic.{◌⊎◌}
use Rattle.std.specs.FinMap as finite
use Rattle.std.specs.Ordering.{nat_cmp}
use Rattle.gc_types.specs.Declarations.{Declaration}
use Rattle.gc_memory.specs.Lists.{In, occ}
use Rattle.gc_drc.specs.declared.space.CountedSpace.{CountedSpace}
use Rattle.gc_drc.specs.Graph.{CountingReached}
use Rattle.gc_drc.specs.View.{View}
use Rattle.gc_drc.specs.CollectStates.{Done}
use Rattle.gc_drc.specs.CollectMemory.{Context, At}
use Rattle.gc_drc.specs.CollectWalk.{Garbage, walk_end}
use Rattle.gc_drc.specs.CollectClear.{AllMarked}

-- The walk has come to a place: what is held before it is reached.
pub record Walk (D : Type 0) (c : Context) (before : finite.FinMap nat_cmp D) (s : CountedSpace) (now : finite.FinMap nat_cmp D) (end place : ℕ) : Type 0 where
  pub places : List ℕ
  pub garbage : Garbage D c before places s now
  pub is_at : (place ≡ end) ⊎ In place places
  pub walked : (p : ℕ) → In p places → p < place → CountingReached c.graph p
  pub end_is : walk_end s ≡ end

-- a walk that began there has come to here
abbrev pub Walks : {D : Type 0} → List Declaration → CountedSpace → finite.FinMap nat_cmp D → CountedSpace → finite.FinMap nat_cmp D → ℕ → ℕ → Type 0
Walks {D} types s old s' now end place = (c : Context) (before : finite.FinMap nat_cmp D) (places : List ℕ) → c.types ≡ types → Garbage D c before places s old → Walk D c before s' now end place

-- The walk has come to a place: what is held before it isn't marked any more, and the rest is.
pub record Clearing (c : Context) (places : List ℕ) (s : CountedSpace) (end place : ℕ) : Type 0 where
  pub view : View
  pub at : At c view s
  pub done : Done c.graph view
  pub places_are : view.places ≡ places
  pub is_at : (place ≡ end) ⊎ In place places
  pub cleared : (p : ℕ) → In p places → p < place → occ p view.marked ≡ 0
  pub left : (p : ℕ) → In p places → place ≤ p → 0 < occ p view.marked
  pub end_is : walk_end s ≡ end

-- a walk that began there has come to here
abbrev pub Clears : CountedSpace → CountedSpace → ℕ → ℕ → Type 0
Clears s s' end place = (c : Context) (places : List ℕ) → AllMarked c places s → Clearing c places s' end place
