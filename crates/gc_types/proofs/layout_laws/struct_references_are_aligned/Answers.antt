use Rattle.gc_types.specs.Layouts.{struct_base}
use Rattle.gc_types.proofs.RefLemmas.{references_placed}
use Rattle.gc_types.proofs.layout_laws.struct_references_are_aligned.Goals as goal

pub returns : goal.returns
returns c = λ heap fields. references_placed (struct_base heap) (fields)
