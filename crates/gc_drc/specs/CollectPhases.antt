-- The increments of a collection of a counting heap.
use Rattle.std.specs.Prelude.{◌≡◌, ℕ, ◌+◌, ◌-◌, Bool, List, []}
use Rattle.gc_heap.specs.declared.collection.GcProgress.{GcProgress}
use Rattle.gc_heap.specs.declared.collection.GcProgress.TheVariants as progress
use Rattle.gc_drc.specs.declared.space.CountedSpace.{CountedSpace}
use Rattle.gc_drc.specs.declared.collect.phase.Phase.{Phase}
use Rattle.gc_drc.specs.declared.collect.phase.Phase.TheVariants as phase
use Rattle.gc_memory.specs.Lists.{In}
use Rattle.gc_drc.specs.View.{View}
use Rattle.gc_drc.specs.Unheld.{Unheld}
use Rattle.gc_drc.specs.CollectMemory.{Context}
use Rattle.gc_drc.specs.CollectSweep.{FrameMarks}
use Rattle.gc_drc.specs.CollectSpan.{Begins, HostsGone, Ends}
use Rattle.gc_drc.specs.CollectUnreached.{Swept}

-- how many increments were done before each phase
abbrev pub increments_before : Phase → ℕ
increments_before phase.MarkFrames = 0
increments_before phase.FreeUnheld = 1
increments_before phase.FreeUnreached = 2
increments_before phase.Done = 3

-- what is left of a collection: each increment makes it less
abbrev pub increments_left : Phase → ℕ
increments_left at = 3 - increments_before at

-- No increment was done.
pub record Untouched (c : Context) (before : ℕ → Bool) (s : CountedSpace) (now : ℕ → Bool) : Type 0 where
  pub view : View
  pub begins : Begins c view s
  pub hosts_are : now ≡ before

-- What frame slots hold was marked.
pub record FramesMarked (c : Context) (before : ℕ → Bool) (s : CountedSpace) (now : ℕ → Bool) : Type 0 where
  pub marks : FrameMarks c s []
  pub hosts_are : now ≡ before

-- What nothing held any more was freed: exactly the unheld objects are gone.
pub record UnheldFreed (c : Context) (before : ℕ → Bool) (s : CountedSpace) (now : ℕ → Bool) : Type 0 where
  pub places : List ℕ
  pub swept : Swept c places s
  pub gone : HostsGone c places before now
  pub freed : (p : ℕ) → In p c.graph.places → (In p places → ⊥) → Unheld c.graph p
  pub kept : (p : ℕ) → In p places → Unheld c.graph p → ⊥

-- where a collection stands that began there, by what its next increment does
abbrev pub CountingStandsAt : Context → (ℕ → Bool) → Phase → CountedSpace → (ℕ → Bool) → Type 0
CountingStandsAt c before phase.MarkFrames s now = Untouched c before s now
CountingStandsAt c before phase.FreeUnheld s now = FramesMarked c before s now
CountingStandsAt c before phase.FreeUnreached s now = UnheldFreed c before s now
CountingStandsAt c before phase.Done s now = ⊥

-- What an increment answers and leaves: it goes on with the next phase, or it was the third and last one.
abbrev pub StepsOn : Context → (ℕ → Bool) → GcProgress → Phase → Phase → CountedSpace → (ℕ → Bool) → Type 0
StepsOn c before progress.Continue old new s now = (increments_before new ≡ increments_before old + 1) × CountingStandsAt c before new s now
StepsOn c before progress.Complete old new s now = (increments_before old + 1 ≡ 3) × ((v : View) × Ends c v s before now)
