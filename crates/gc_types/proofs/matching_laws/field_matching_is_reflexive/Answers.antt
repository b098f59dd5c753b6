use Rattle.gc_types.proofs.LawsOfMatching.{field_reflexive}
use Rattle.gc_types.proofs.matching_laws.field_matching_is_reflexive.Goals as goal

pub returns : goal.returns
returns c = field_reflexive
