use Rattle.gc_image.specs.Well.{IsWellGlobal}
use Rattle.gc_image.proofs.ElementLemmas.{Below}
use Rattle.gc_image.proofs.globals.are_globals_well.Given as goal

abbrev pub invariant-loop-global : goal.invariant-loop-global
invariant-loop-global l = Below (λ i. IsWellGlobal l.count) l.globals l.global-index
