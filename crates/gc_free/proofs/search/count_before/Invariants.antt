use Rattle.std.proofs.Common.{◌-◌}
use Rattle.gc_free.specs.Orders.{key_of}
use Rattle.gc_free.proofs.Narrowing.{IsNarrowed}
use Rattle.gc_free.proofs.search.count_before.Given as goal

abbrev pub invariant-loop-low : goal.invariant-loop-low
invariant-loop-low g l = IsNarrowed (key_of l.order) l.key l.runs l.low l.high l.initial.steps l.steps

abbrev pub decreases-loop-low : goal.decreases-loop-low
decreases-loop-low g l = l.high - l.low
