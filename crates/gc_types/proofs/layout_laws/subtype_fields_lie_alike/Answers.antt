use Rattle.gc_types.proofs.AlikeLemmas.{fields_lie}
use Rattle.gc_types.proofs.layout_laws.subtype_fields_lie_alike.Goals as goal

pub returns : goal.returns
returns c = λ heap types sub sup fields all meets found. fields_lie heap types fields all meets found
