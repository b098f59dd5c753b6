use Rattle.gc_types.specs.Subtyping.{here}
use Rattle.gc_types.proofs.matching_laws.subtyping_is_reflexive.Goals as goal

pub returns : goal.returns
returns c = λ supers a declared. here declared
