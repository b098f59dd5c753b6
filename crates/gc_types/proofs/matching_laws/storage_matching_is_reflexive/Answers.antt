use Rattle.gc_types.proofs.LawsOfMatching.{storage_reflexive}
use Rattle.gc_types.proofs.matching_laws.storage_matching_is_reflexive.Goals as goal

pub returns : goal.returns
returns c = storage_reflexive
