-- Where a collection of a counting heap stands between two increments.
use Rattle.std.specs.Prelude.{◌≡◌, ℕ, Bool, List}
use Rattle.gc_types.specs.Declarations.{Declaration}
use Rattle.gc_roots.specs.Roots.{Root}
use Rattle.gc_heap.specs.Collection.{Start}
use Rattle.gc_drc.specs.declared.space.CountedSpace.{CountedSpace}
use Rattle.gc_drc.specs.declared.collect.phase.Phase.{Phase}
use Rattle.gc_drc.specs.declared.collect.phase.Phase.TheVariants as phase
use Rattle.gc_drc.specs.declared.heap.DrcHeap.{DrcHeap}
use Rattle.gc_drc.specs.Backed.{CountingBacking}
use Rattle.gc_heap.specs.declared.backing.Backing.TheVariants as backing
use Rattle.gc_drc.specs.View.{View}
use Rattle.gc_drc.specs.CollectPhases.{increments_before, CountingStandsAt}
use Rattle.gc_drc.specs.Objects.{context_of, CountingBeginsIn}

-- Where a collection stands in each phase that began in a space: before its first increment nothing has
-- changed.
abbrev pub StandsIn : Start → View → CountedSpace → Phase → CountedSpace → (ℕ → Bool) → Type 0
StandsIn s v before phase.MarkFrames space hosts = (space ≡ before) × (hosts ≡ s.hosts)
StandsIn s v before phase.FreeUnheld space hosts = CountingStandsAt (context_of s before.memory v.places) s.hosts phase.FreeUnheld space hosts
StandsIn s v before phase.FreeUnreached space hosts = CountingStandsAt (context_of s before.memory v.places) s.hosts phase.FreeUnreached space hosts
StandsIn s v before phase.Done space hosts = ⊥

-- A collection that began there has done n increments in this space.
pub record CountingBetweenIn (s : Start) (n scopes : ℕ) (space : CountedSpace) (at : Phase) (roots : List Root) (types : List Declaration) (hosts : ℕ → Bool) : Type 0 where
  pub view : View
  pub before : CountedSpace
  pub begins : CountingBeginsIn s view before scopes
  pub number : n ≡ increments_before at
  pub stands : StandsIn s view before at space hosts
  pub roots_are : roots ≡ s.roots
  pub types_are : types ≡ s.types

-- the same of a heap, which has its memory
abbrev pub CountingBetween : Start → ℕ → ℕ → CountingBacking → Phase → List Root → List Declaration → (ℕ → Bool) → Type 0
CountingBetween s n scopes backing.Detached at roots types hosts = ⊥
CountingBetween s n scopes (backing.Attached space) at roots types hosts = CountingBetweenIn s n scopes space at roots types hosts
CountingBetween s n scopes (backing.Taken m) at roots types hosts = ⊥

-- A collection that began there has done n increments in this heap.
abbrev pub IsDrcUnderWay : Start → ℕ → DrcHeap → Phase → List Root → List Declaration → (ℕ → Bool) → Type 0
IsDrcUnderWay s n h at roots types hosts = CountingBetween s n h.scopes h.backing at roots types hosts
