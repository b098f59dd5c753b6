use Rattle.gc_types.proofs.LawsOfMatching.{heap_reflexive}
use Rattle.gc_types.proofs.matching_laws.heap_matching_is_reflexive.Goals as goal

pub returns : goal.returns
returns c = heap_reflexive
