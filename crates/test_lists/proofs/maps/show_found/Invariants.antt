use Rattle.std.proofs.Common.{◌≡◌}
use Rattle.test_lists.proofs.maps.show_found.Given as goal

abbrev pub invariant-loop-key : goal.invariant-loop-key
invariant-loop-key g l = l.store ≡ l.fn.store
