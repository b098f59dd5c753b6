use Rattle.gc_image.specs.Steps.{Finds, none_found}
use Rattle.gc_image.proofs.SeekLemmas.{NamedBelow, global_named}
use Rattle.gc_image.proofs.reach.find_held.Given as goal

abbrev pub invariant-loop-global : goal.invariant-loop-global
invariant-loop-global l = Finds (NamedBelow global_named l.globals l.global-index) (none_found l.count) l.found
