use Rattle.test_lists.specs.Standing.{MapIn}
use Rattle.test_lists.proofs.maps.leave_roots.Given as goal

abbrev pub invariant-loop-root : goal.invariant-loop-root
invariant-loop-root g l = MapIn g.H.GcHeap.KIND l.store l.kit l.map.root
