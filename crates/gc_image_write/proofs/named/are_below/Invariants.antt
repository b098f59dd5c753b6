use Rattle.gc_image_write.specs.Order.{NamesBelow}
use Rattle.gc_image.proofs.ElementLemmas.{Below}
use Rattle.gc_image_write.proofs.named.are_below.Given as goal

abbrev pub invariant-loop-value : goal.invariant-loop-value
invariant-loop-value l = Below (λ k v. NamesBelow l.count v) l.values l.value-index
