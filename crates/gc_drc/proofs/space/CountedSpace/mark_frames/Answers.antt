use Rattle.std.proofs.Common.{ℕ, List, subst, arith}
use Rattle.gc_drc.specs.CollectSweep.{FrameMarks}
use Rattle.gc_drc.proofs.SweepMemory.{no_roots}
use Rattle.gc_drc.proofs.space.CountedSpace.mark_frames.Goals as goal

pub mark_root-requires-clause-marks : goal.mark_root-requires-clause-marks
mark_root-requires-clause-marks c = (c.requires.0, c.loop-index.invariant c.requires.0 c.requires.1)

pub loop-index-preserved : goal.loop-index-preserved
loop-index-preserved c o m = c.mark_root.ensures o (c.loop-index.invariant o m)

pub returns : goal.returns
returns c o m =
    let e = no_roots c.args.roots.now.roots c.loop-index.index (omega (arith, c.loop-index-test.false, c.len-index-end.ensures)) in
    subst (λ (ws : List ℕ). FrameMarks o c.loop-index.self ws) e (c.loop-index.invariant o m)
