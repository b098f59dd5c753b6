use Rattle.std.proofs.Common.{drop}
use Rattle.gc_drc.proofs.SweepMemory.{MarksFrames}
use Rattle.gc_drc.proofs.space.CountedSpace.mark_frames.Given as goal

abbrev pub invariant-loop-index : goal.invariant-loop-index
invariant-loop-index l = MarksFrames l.fn.self l.roots.roots l.self (drop l.index l.roots.roots)
