use Rattle.gc_types.proofs.SubtypingLemmas.{meets_trans}
use Rattle.gc_types.proofs.matching_laws.subtyping_is_transitive.Goals as goal

pub returns : goal.returns
returns c = λ supers a b d m n. meets_trans supers m n
