use Rattle.std.proofs.Common.{◌-◌, length}
use Rattle.gc_image.proofs.ReachLemmas.{Walks}
use Rattle.gc_image.proofs.reach.are_reached.Given as goal

abbrev pub invariant-loop-next : goal.invariant-loop-next
invariant-loop-next l = Walks l.objects l.globals l.found l.next

abbrev pub decreases-loop-next : goal.decreases-loop-next
decreases-loop-next l = length l.objects - l.next
