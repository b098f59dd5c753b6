use Rattle.gc_types.proofs.LawsOfMatching.{field_transitive}
use Rattle.gc_types.proofs.matching_laws.field_matching_is_transitive.Goals as goal

pub returns : goal.returns
returns c = field_transitive
