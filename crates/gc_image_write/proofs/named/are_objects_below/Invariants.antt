use Rattle.std.proofs.Common.{length}
use Rattle.gc_image_write.proofs.LineBelow.{IsLineBelow}
use Rattle.gc_image.proofs.ElementLemmas.{Below}
use Rattle.gc_image_write.proofs.named.are_objects_below.Given as goal

abbrev pub invariant-loop-line : goal.invariant-loop-line
invariant-loop-line l = Below (λ k o. IsLineBelow (length l.objects) o) l.objects l.line-index
