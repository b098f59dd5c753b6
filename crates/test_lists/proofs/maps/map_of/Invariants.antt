use Rattle.test_lists.specs.Standing.{MapIn}
use Rattle.test_lists.proofs.maps.map_of.Given as goal

abbrev pub invariant-loop-change : goal.invariant-loop-change
invariant-loop-change g l = MapIn g.H.GcHeap.KIND l.store l.kit l.map.root
