use Rattle.std.proofs.Common.{drop}
use Rattle.gc_drc.specs.CollectTrace.{TracesRoots}
use Rattle.gc_drc.proofs.space.CountedSpace.mark_roots.Given as goal

abbrev pub invariant-loop-index : goal.invariant-loop-index
invariant-loop-index l = TracesRoots l.fn.self l.fn.reached.head l.fn.reached.fresh l.roots.roots l.self l.reached.head l.reached.fresh (drop l.index l.roots.roots)
