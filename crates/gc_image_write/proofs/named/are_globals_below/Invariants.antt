use Rattle.gc_image.specs.declared.image.GlobalLine.{GlobalLine}
use Rattle.gc_image_write.specs.Order.{NamesBelow}
use Rattle.gc_image.proofs.ElementLemmas.{Below}
use Rattle.gc_image_write.proofs.named.are_globals_below.Given as goal

abbrev pub invariant-loop-global : goal.invariant-loop-global
invariant-loop-global l = Below (λ k (g : GlobalLine). NamesBelow l.count g.value) l.globals l.global-index
