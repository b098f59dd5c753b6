use Rattle.gc_types.proofs.LawsOfMatching.{val_reflexive}
use Rattle.gc_types.proofs.matching_laws.val_matching_is_reflexive.Goals as goal

pub returns : goal.returns
returns c = val_reflexive
