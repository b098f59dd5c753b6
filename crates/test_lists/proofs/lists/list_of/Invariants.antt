use Rattle.test_lists.specs.Standing.{ListIn}
use Rattle.test_lists.proofs.lists.list_of.Given as goal

abbrev pub invariant-loop-number : goal.invariant-loop-number
invariant-loop-number g l = ListIn g.H.GcHeap.KIND l.store l.kit l.list.root
