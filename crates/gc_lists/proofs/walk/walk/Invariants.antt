use Rattle.gc_lists.proofs.walk.walk.Given as goal
use Rattle.gc_lists.proofs.Walking.{Going}

abbrev pub invariant-loop : goal.invariant-loop
invariant-loop g l = Going g.H.GcHeap.KIND l.fn.store l.fn.first l.numbers.items l.here l.store
