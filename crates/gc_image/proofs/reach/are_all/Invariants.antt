use Rattle.std.proofs.Common.{◌≡◌, true}
use Rattle.gc_image.proofs.ElementLemmas.{Below}
use Rattle.gc_image.proofs.reach.are_all.Given as goal

abbrev pub invariant-loop-is_marked : goal.invariant-loop-is_marked
invariant-loop-is_marked l = Below (λ k b. b ≡ true) l.marked l.is_marked-index
