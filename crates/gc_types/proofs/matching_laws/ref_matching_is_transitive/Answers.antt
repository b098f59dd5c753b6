use Rattle.gc_types.proofs.LawsOfMatching.{ref_transitive}
use Rattle.gc_types.proofs.matching_laws.ref_matching_is_transitive.Goals as goal

pub returns : goal.returns
returns c = ref_transitive
