use Rattle.std.proofs.Common.{◌≡◌, ℕ, ◌+◌, ◌-◌, ◌<◌, ◌≤◌, length, Some}
use Rattle.std.specs.List.{slice_get}
use Rattle.gc_image.specs.declared.image.GlobalLine.{GlobalLine}
use Rattle.gc_image.proofs.globals.are_rising.Given as goal

abbrev pub invariant-loop-i : goal.invariant-loop-i
invariant-loop-i l = record {
  some : 1 ≤ l.i;
  rising : (k : ℕ) (one next : GlobalLine) → k + 1 < l.i → slice_get l.globals k ≡ Some one → slice_get l.globals (k + 1) ≡ Some next → one.index < next.index;
}

abbrev pub decreases-loop-i : goal.decreases-loop-i
decreases-loop-i l = length l.globals - l.i
