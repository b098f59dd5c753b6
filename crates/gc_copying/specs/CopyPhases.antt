-- The increments of a collection of a copying heap.
use Rattle.std.specs.Prelude.{◌≡◌, ℕ, ◌+◌, ◌-◌, ◌/◌, ◌^◌, ◌<◌, Bool, not, List, length}
use Rattle.std.specs.FinMap as finite
use Rattle.std.specs.Ordering.{nat_cmp}
use Rattle.gc_types.specs.Declarations.{Declaration}
use Rattle.gc_roots.specs.Roots.{Root}
use Rattle.gc_heap.specs.Collection.{objects_per_increment}
use Rattle.gc_heap.specs.declared.collection.GcProgress.{GcProgress}
use Rattle.gc_heap.specs.declared.collection.GcProgress.TheVariants as progress
use Rattle.gc_copying.specs.declared.space.Space.{Space}
use Rattle.gc_copying.specs.declared.copy.collect.Phase.{Phase}
use Rattle.gc_copying.specs.declared.copy.collect.Phase.TheVariants as phase
use Rattle.gc_copying.specs.CopyStart.{From}
use Rattle.gc_copying.specs.CopySteps.{words_of_roots}
use Rattle.gc_copying.specs.CopyEnd.{IsBegun, AtWork, AtSweep, IsFinished, HostsSwept, ListsReached}

-- Where a collection is: its start, the roots that it began with, and the host values; how many increments were
-- done and how many steps were counted; and the heap and the roots as they are.
pub record CopyProgress (D : Type 0) : Type 0 where
  pub start : From
  pub began_with : List Root
  pub hosts : finite.FinMap nat_cmp D
  pub increments : ℕ
  pub counted : ℕ

-- No increment was done.
pub record BeforeRoots (D : Type 0) (c : CopyProgress D) (h : Space) (roots : List Root) : Type 0 where
  pub none_done : c.increments ≡ 0
  pub none_counted : c.counted ≡ 0
  pub begun : IsBegun c.start h
  pub roots_are : c.start.roots ≡ words_of_roots roots
  pub same_roots : roots ≡ c.began_with

-- The roots were moved, and the copies from `scan` on are to be scanned.
pub record AtScan (D : Type 0) (c : CopyProgress D) (h : Space) (scan externals : ℕ) (roots : List Root) : Type 0 where
  pub scans : ℕ
  pub done : c.increments ≡ scans + 1
  pub work : AtWork c.start c.began_with roots h scan scans c.counted
  pub externals_are : externals ≡ c.start.externals

-- All copies were scanned, and the list of external objects is to be swept.
pub record BeforeSweep (D : Type 0) (c : CopyProgress D) (h : Space) (externals : ℕ) (roots : List Root) : Type 0 where
  pub scans : ℕ
  pub done : c.increments ≡ scans + 1
  pub sweep : AtSweep c.start c.began_with roots h scans c.counted
  pub externals_are : externals ≡ c.start.externals

-- where a collection stands in each phase
abbrev pub InPhase : (D : Type 0) → CopyProgress D → Space → Phase → List Root → Type 0
InPhase D c h phase.Roots roots = BeforeRoots D c h roots
InPhase D c h (phase.Worklist scan externals) roots = AtScan D c h scan externals roots
InPhase D c h (phase.Sweep externals) roots = BeforeSweep D c h externals roots
InPhase D c h phase.Done roots = ⊥

-- A collection has done so many increments.
pub record UnderWay (D : Type 0) (c : CopyProgress D) (h : Space) (at : Phase) (roots : List Root) (types : List Declaration) (hosts : finite.FinMap nat_cmp D) : Type 0 where
  pub types_are : c.start.types ≡ types
  pub hosts_are : hosts ≡ c.hosts
  pub in_phase : InPhase D c h at roots

-- one more increment was done, in which so many steps were counted
abbrev pub one_more : {D : Type 0} → CopyProgress D → ℕ → CopyProgress D
one_more c steps = record c { increments = c.increments + 1; counted = c.counted + steps }

-- It goes on, and is not at the increment yet that its number of reached objects asks for.
pub record CopyingGoesOn (D : Type 0) (c : CopyProgress D) (h : Space) (at : Phase) (roots : List Root) (types : List Declaration) (hosts : finite.FinMap nat_cmp D) : Type 0 where
  pub under_way : UnderWay D c h at roots types hosts
  pub before_last : (reached : List ℕ) → ListsReached c.start reached → c.increments < length reached / objects_per_increment + 3

-- It is complete.
pub record IsComplete (D : Type 0) (c : CopyProgress D) (h : Space) (roots : List Root) (hosts : finite.FinMap nat_cmp D) : Type 0 where
  pub finished : IsFinished c.start c.began_with roots h c.increments c.counted
  pub hosts_swept : HostsSwept c.start D c.hosts hosts

-- what an increment answers and leaves
abbrev pub CopyingStepped : (D : Type 0) → CopyProgress D → GcProgress → Space → Phase → List Root → List Declaration → finite.FinMap nat_cmp D → Type 0
CopyingStepped D c progress.Continue h at roots types hosts = CopyingGoesOn D c h at roots types hosts
CopyingStepped D c progress.Complete h at roots types hosts = IsComplete D c h roots hosts

-- After k increments that scanned comes one more, or the sweep.
abbrev pub Scanned : From → List Root → List Root → Space → ℕ → ℕ → ℕ → Phase → Type 0
Scanned s rs roots h k counted externals phase.Roots = ⊥
Scanned s rs roots h k counted externals (phase.Worklist scan kept) = AtWork s rs roots h scan (k + 1) counted × (kept ≡ externals)
Scanned s rs roots h k counted externals (phase.Sweep kept) = AtSweep s rs roots h (k + 1) counted × (kept ≡ externals)
Scanned s rs roots h k counted externals phase.Done = ⊥

-- what is left of a collection: each increment makes it less
abbrev pub copying_left : Phase → ℕ
copying_left phase.Roots = 2 ^ 32 + 3
copying_left (phase.Worklist scan externals) = 2 + (2 ^ 32 - scan)
copying_left (phase.Sweep externals) = 1
copying_left phase.Done = 0

-- whether the upper half is active after an increment: the first one changes sides
abbrev pub side_after : Phase → Bool → Bool
side_after phase.Roots upper = not upper
side_after (phase.Worklist scan externals) upper = upper
side_after (phase.Sweep externals) upper = upper
side_after phase.Done upper = upper
