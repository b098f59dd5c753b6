use Rattle.gc_drc.specs.CollectTrace.{trace_left}
use Rattle.gc_drc.proofs.TraceMemory.{Scans}
use Rattle.gc_drc.proofs.space.CountedSpace.scan_all.Given as goal

abbrev pub invariant-loop-reached : goal.invariant-loop-reached
invariant-loop-reached l = Scans l.types.declarations l.fn.self l.fn.reached.head l.fn.reached.fresh l.self l.reached.head l.reached.fresh

abbrev pub decreases-loop-reached : goal.decreases-loop-reached
decreases-loop-reached l = trace_left l.self l.reached.head
