use Rattle.gc_drc.proofs.TraceMemory.{scans_can, scans_step}
use Rattle.gc_drc.proofs.space.CountedSpace.scan_all.Goals as goal

pub loop-reached-init : goal.loop-reached-init
loop-reached-init c o unscanned typed t = (unscanned, t)

pub scan_next-requires-clause-can : goal.scan_next-requires-clause-can
scan_next-requires-clause-can c = scans_can _ c.args.self.now c.loop-reached.self c.args.reached.now.head c.args.reached.now.fresh c.loop-reached.reached.head c.loop-reached.reached.fresh c.loop-reached.invariant c.requires

pub loop-reached-preserved : goal.loop-reached-preserved
loop-reached-preserved c =
    scans_step _ c.args.self.now c.loop-reached.self c.scan_next.new.self c.args.reached.now.head c.args.reached.now.fresh c.loop-reached.reached.head c.loop-reached.reached.fresh c.scan_next.new.reached.head c.scan_next.new.reached.fresh c.loop-reached.invariant c.scan_next.ensures.scanned
