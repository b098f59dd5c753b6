use Rattle.gc_types.proofs.LawsOfMatching.{heap_transitive}
use Rattle.gc_types.proofs.matching_laws.heap_matching_is_transitive.Goals as goal

pub returns : goal.returns
returns c = heap_transitive
