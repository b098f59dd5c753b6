use Rattle.gc_types.proofs.LawsOfMatching.{val_transitive}
use Rattle.gc_types.proofs.matching_laws.val_matching_is_transitive.Goals as goal

pub returns : goal.returns
returns c = val_transitive
