use Rattle.gc_drc.specs.CollectSweep.{sweep_left}
use Rattle.gc_drc.proofs.SweepMemory.{Sweeps}
use Rattle.gc_drc.proofs.space.CountedSpace.sweep_shown.Given as goal

abbrev pub invariant-loop-place : goal.invariant-loop-place
invariant-loop-place l = Sweeps l.fn.self l.self l.before l.place

abbrev pub decreases-loop-place : goal.decreases-loop-place
decreases-loop-place l = sweep_left l.self
