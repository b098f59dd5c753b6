-- The third increment, which frees the cycles that are left.
use Rattle.std.specs.Prelude.{◌≡◌, ℕ, List, []}
use Rattle.std.specs.FinMap as finite
use Rattle.std.specs.Ordering.{nat_cmp}
use Rattle.gc_drc.specs.declared.space.CountedSpace.{CountedSpace}
use Rattle.gc_drc.specs.View.{View}
use Rattle.gc_drc.specs.CollectStates.{Drained, Done}
use Rattle.gc_drc.specs.CollectMemory.{Context, At}
use Rattle.gc_drc.specs.CollectHosts.{HostsLeft}

-- where a collection goes on when these objects of its start are left
abbrev pub held_context : Context → List ℕ → Context
held_context c places = record c { graph = record c.graph { places = places } }

-- What nothing held any more was freed; these objects are left.
pub record Swept (c : Context) (places : List ℕ) (s : CountedSpace) : Type 0 where
  pub view : View
  pub at : At c view s
  pub drained : Drained c.graph view
  pub places_are : view.places ≡ places

-- Exactly those of them were freed that aren't reached, with their host values.
pub record FreesUnreached (D : Type 0) (c : Context) (places : List ℕ) (s : CountedSpace) (before now : finite.FinMap nat_cmp D) : Type 0 where
  pub view : View
  pub at : At (held_context c places) view s
  pub done : Done c.graph view
  pub unmarked : view.marked ≡ []
  pub hosts : HostsLeft D (held_context c places) view.places before now
