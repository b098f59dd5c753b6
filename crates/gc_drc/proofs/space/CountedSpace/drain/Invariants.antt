use Rattle.std.proofs.Common.{◌≤◌}
use Rattle.gc_drc.specs.CollectDrain.{drain_left}
use Rattle.gc_drc.proofs.DrainLemmas.{Drains}
use Rattle.gc_drc.proofs.space.CountedSpace.drain.Given as goal

abbrev pub invariant-loop-self : goal.invariant-loop-self
invariant-loop-self g l = Drains l.types.declarations l.fn.self l.fn.hosts.entries l.self l.hosts.entries × (l.fn.hosts.spare ≤ l.hosts.spare)

abbrev pub decreases-loop-self : goal.decreases-loop-self
decreases-loop-self g l = drain_left l.self
