use Rattle.std.proofs.Common.{◌-◌, ◌≤◌, ℕ, length}
use Rattle.gc_lists.proofs.kit.next_index.Given as goal

pub record Searched (count low high : ℕ) : Type 0 where
  pub from : low ≤ count
  pub to : count ≤ high

abbrev pub invariant-loop-low : goal.invariant-loop-low
invariant-loop-low l = Searched (length l.types.declarations) l.low l.high

abbrev pub decreases-loop-low : goal.decreases-loop-low
decreases-loop-low l = l.high - l.low
