-- A collection of a copying heap, from its start in objects to its increments in bytes.
use Rattle.std.specs.Prelude.{◌≡◌, ℕ, Bool, true, not, List, length}
use Rattle.std.specs.FinMap as finite
use Rattle.gc_types.specs.declared.kind.Layouts.TheVariants.{Copying}
use Rattle.gc_types.specs.Declarations.{Declaration}
use Rattle.gc_roots.specs.Roots.{Root}
use Rattle.gc_heap.specs.Collection.{Start, Stage, CanCollect, Collected, IsStepCount, Stepped}
use Rattle.gc_heap.specs.declared.collection.GcProgress.{GcProgress}
use Rattle.gc_copying.specs.declared.space.Space.{Space}
use Rattle.gc_copying.specs.declared.heap.CopyingHeap.{CopyingHeap}
use Rattle.gc_copying.specs.Backed.{CopyingBacking}
use Rattle.gc_heap.specs.declared.backing.Backing.TheVariants as backing
use Rattle.gc_copying.specs.declared.copy.collect.Phase.{Phase}
use Rattle.gc_copying.specs.declared.copy.collect.Phase.TheVariants as phase
use Rattle.gc_copying.specs.Content.{space_view, IsSpace}
use Rattle.gc_copying.specs.Layout.{copying_first_place, places_in}
use Rattle.gc_copying.specs.CopyStart.{From}
use Rattle.gc_copying.specs.CopySteps.{words_of_roots}
use Rattle.gc_copying.specs.CopyPhases.{CopyProgress, InPhase}
use Rattle.gc_copying.specs.States.{copying_seen, IsCopyingSound}

-- the start of a collection, in the bytes of a space
abbrev pub start_in_bytes : Start → List ℕ → Bool → ℕ → ℕ → From
start_in_bytes s bytes upper bump head = record {
  memory = bytes;
  types = s.types;
  roots = words_of_roots s.roots;
  first = copying_first_place (length bytes) upper;
  end = bump;
  places = places_in bytes upper bump;
  externals = head;
}

-- A collection that may begin there begins in this space.
pub record CopyingBeginsIn (s : Start) (bytes : List ℕ) (upper : Bool) (bump head objects scopes : ℕ) : Type 0 where
  pub space : IsSpace bytes upper bump head objects
  pub heap_is : space_view bytes upper bump scopes ≡ s.heap
  pub can : CanCollect Copying s

-- No increment was done, and the space and the roots are as they were.
pub record IsUntouched (s : Start) (memory : List ℕ) (upper : Bool) (bump head n counted : ℕ) (space : Space) (roots : List Root) : Type 0 where
  pub none_done : n ≡ 0
  pub none_counted : counted ≡ 0
  pub memory_is : memory ≡ space.memory
  pub upper_is : upper ≡ space.upper
  pub bump_is : bump ≡ space.bump
  pub head_is : head ≡ space.externals
  pub roots_are : roots ≡ s.roots

-- how far a collection is that has the host values that it began with
abbrev pub so_far : Start → From → ℕ → ℕ → CopyProgress (Unit {0})
so_far s from n counted = record { start = from; began_with = s.roots; hosts = finite.empty; increments = n; counted = counted }

-- where a collection stands in each phase
abbrev pub CopyingStandsAt : Start → List ℕ → Bool → ℕ → ℕ → ℕ → ℕ → Space → Phase → List Root → Type 0
CopyingStandsAt s memory upper bump head n counted space phase.Roots roots = IsUntouched s memory upper bump head n counted space roots
CopyingStandsAt s memory upper bump head n counted space (phase.Worklist scan externals) roots =
    InPhase (Unit {0}) (so_far s (start_in_bytes s memory upper bump head) n counted) space (phase.Worklist scan externals) roots × (space.upper ≡ not upper)
CopyingStandsAt s memory upper bump head n counted space (phase.Sweep externals) roots =
    InPhase (Unit {0}) (so_far s (start_in_bytes s memory upper bump head) n counted) space (phase.Sweep externals) roots × (space.upper ≡ not upper)
CopyingStandsAt s memory upper bump head n counted space phase.Done roots = ⊥

-- A collection that began there has done n increments in this space, which took so many steps.
pub record CopyingBetweenIn (s : Start) (n counted scopes : ℕ) (space : Space) (phase : Phase) (roots : List Root) (types : List Declaration) (hosts : ℕ → Bool) : Type 0 where
  pub memory : List ℕ
  pub upper : Bool
  pub bump : ℕ
  pub head : ℕ
  pub objects : ℕ
  pub begins : CopyingBeginsIn s memory upper bump head objects scopes
  pub stands : CopyingStandsAt s memory upper bump head n counted space phase roots
  pub types_are : types ≡ s.types
  pub hosts_are : hosts ≡ s.hosts

-- the same of a heap, which has its memory
abbrev pub CopyingBetween : Start → ℕ → ℕ → ℕ → CopyingBacking → Phase → List Root → List Declaration → (ℕ → Bool) → Type 0
CopyingBetween s n counted scopes backing.Detached phase roots types hosts = ⊥
CopyingBetween s n counted scopes (backing.Attached space) phase roots types hosts = CopyingBetweenIn s n counted scopes space phase roots types hosts
CopyingBetween s n counted scopes (backing.Taken m) phase roots types hosts = ⊥

-- the same of a heap and a phase
abbrev pub HasCopied : Start → ℕ → ℕ → Stage CopyingHeap Phase → Type 0
HasCopied s n counted at = CopyingBetween s n counted at.heap.scopes at.heap.backing at.state at.roots at.types at.hosts

-- what an increment answers and leaves, with which the collection has done so many and counted so many steps
abbrev pub CopiesMore : Start → ℕ → ℕ → GcProgress → Stage CopyingHeap Phase → Type 0
CopiesMore s n counted answer at = Stepped Copying s n answer (HasCopied s n counted at)
    (IsCopyingSound at.heap × IsStepCount Copying s counted × Collected Copying s (copying_seen at.heap) at.roots at.hosts)

-- A collection that began there has done so many increments; where each was counted, their steps are known.
pub record IsCopyingUnderWay (s : Start) (n : ℕ) (c : Bool) (h : CopyingHeap) (at : Phase) (ticks : ℕ) (roots : List Root) (types : List Declaration) (hosts : ℕ → Bool) : Type 0 where
  pub counted : ℕ
  pub between : CopyingBetween s n counted h.scopes h.backing at roots types hosts
  pub ticks_are : c ≡ true → ticks ≡ counted
