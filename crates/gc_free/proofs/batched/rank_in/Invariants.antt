use Rattle.std.proofs.Common.{◌≤◌, length}
use Rattle.gc_free.proofs.batched.rank_in.Given as goal

abbrev pub invariant-loop-at : goal.invariant-loop-at
invariant-loop-at l = l.at ≤ length l.waiting

abbrev pub decreases-loop-at : goal.decreases-loop-at
decreases-loop-at l = l.at
