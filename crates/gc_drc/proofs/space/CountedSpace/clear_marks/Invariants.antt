use Rattle.std.proofs.Common.{◌-◌}
use Rattle.gc_drc.proofs.WalkStates.{Clears}
use Rattle.gc_drc.proofs.space.CountedSpace.clear_marks.Given as goal

abbrev pub invariant-loop-place : goal.invariant-loop-place
invariant-loop-place l = Clears l.fn.self l.self l.end l.place

abbrev pub decreases-loop-place : goal.decreases-loop-place
decreases-loop-place l = l.end - l.place
