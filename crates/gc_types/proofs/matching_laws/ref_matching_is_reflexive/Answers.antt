use Rattle.gc_types.proofs.LawsOfMatching.{ref_reflexive}
use Rattle.gc_types.proofs.matching_laws.ref_matching_is_reflexive.Goals as goal

pub returns : goal.returns
returns c = ref_reflexive
