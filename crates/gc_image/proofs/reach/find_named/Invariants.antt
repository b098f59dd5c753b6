use Rattle.gc_image.specs.Steps.{Finds}
use Rattle.gc_image.specs.Well.{number_named}
use Rattle.gc_image.proofs.SeekLemmas.{NamedBelow}
use Rattle.gc_image.proofs.reach.find_named.Given as goal

abbrev pub invariant-loop-value : goal.invariant-loop-value
invariant-loop-value l = Finds (NamedBelow number_named l.values l.value-index) l.fn.found l.found
