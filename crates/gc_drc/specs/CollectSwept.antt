-- What the first two increments of a collection leave.
use Rattle.std.specs.Prelude.{ℕ}
use Rattle.std.specs.FinMap as finite
use Rattle.std.specs.Ordering.{nat_cmp}
use Rattle.gc_memory.specs.Lists.{In}
use Rattle.gc_drc.specs.declared.space.CountedSpace.{CountedSpace}
use Rattle.gc_drc.specs.View.{View}
use Rattle.gc_drc.specs.Unheld.{Unheld}
use Rattle.gc_drc.specs.CollectStates.{Drained}
use Rattle.gc_drc.specs.CollectMemory.{Context, At}
use Rattle.gc_drc.specs.CollectHosts.{HostsLeft}

-- The plain law of counting: exactly the unheld objects were freed, with their host values. The counts are exact
-- again, shown is what frame slots name, and nothing is queued or marked.
pub record FreesUnheld (D : Type 0) (c : Context) (s : CountedSpace) (before now : finite.FinMap nat_cmp D) : Type 0 where
  pub view : View
  pub at : At c view s
  pub drained : Drained c.graph view
  pub hosts : HostsLeft D c view.places before now
  pub freed : (p : ℕ) → In p c.graph.places → (In p view.places → ⊥) → Unheld c.graph p
  pub kept : (p : ℕ) → In p view.places → Unheld c.graph p → ⊥
