use Rattle.gc_types.proofs.LawsOfMatching.{storage_transitive}
use Rattle.gc_types.proofs.matching_laws.storage_matching_is_transitive.Goals as goal

pub returns : goal.returns
returns c = storage_transitive
