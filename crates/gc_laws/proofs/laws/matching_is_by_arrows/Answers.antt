use Rattle.gc_types.specs.Subtyping.{supertypes_of}
use Rattle.gc_model.proofs.Matching.{matches-heap, declared_older}
use Rattle.gc_laws.proofs.laws.matching_is_by_arrows.Goals as goal

pub returns : goal.returns
returns c types x y declared = matches-heap (supertypes_of types) (declared_older types declared) x y
