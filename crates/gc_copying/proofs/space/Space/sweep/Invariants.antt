use Rattle.std.proofs.Common.{◌≡◌, ◌≤◌, length}
use Rattle.gc_copying.specs.CopyStart.{From}
use Rattle.gc_copying.specs.CopySteps.{Midway}
use Rattle.gc_copying.specs.CopySweep.{SameCounts}
use Rattle.gc_copying.proofs.FewLemmas.{count_links}
use Rattle.gc_copying.proofs.SweepLemmas.{SweptTo}
use Rattle.gc_copying.proofs.space.Space.sweep.Given as goal

abbrev pub invariant-loop-place : goal.invariant-loop-place
invariant-loop-place g l = record {
  along : (s : From) → (mid : Midway s l.fn.self.bump l.fn.self) → l.first ≡ s.externals
      → SweptTo s _ l.fn.self l.self mid l.place l.fn.hosts.entries l.hosts.entries;
  counts : SameCounts l.fn.self l.self;
  spare : l.fn.hosts.spare ≤ l.hosts.spare;
}

abbrev pub decreases-loop-place : goal.decreases-loop-place
decreases-loop-place g l = count_links (length l.self.memory) l.self.memory l.place
