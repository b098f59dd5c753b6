use Rattle.gc_types.proofs.AlikeLemmas.{elems_lie}
use Rattle.gc_types.proofs.layout_laws.subtype_elems_lie_alike.Goals as goal

pub returns : goal.returns
returns c = λ heap types sub sup elem all meets found. elems_lie heap types elem all meets found
