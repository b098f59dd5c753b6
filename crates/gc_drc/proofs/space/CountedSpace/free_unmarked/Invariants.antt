use Rattle.std.proofs.Common.{◌-◌, ◌≤◌}
use Rattle.gc_drc.proofs.WalkStates.{Walks}
use Rattle.gc_drc.proofs.space.CountedSpace.free_unmarked.Given as goal

abbrev pub invariant-loop-place : goal.invariant-loop-place
invariant-loop-place g l = Walks l.types.declarations l.fn.self l.fn.hosts.entries l.self l.hosts.entries l.end l.place × (l.fn.hosts.spare ≤ l.hosts.spare)

abbrev pub decreases-loop-place : goal.decreases-loop-place
decreases-loop-place g l = l.end - l.place
