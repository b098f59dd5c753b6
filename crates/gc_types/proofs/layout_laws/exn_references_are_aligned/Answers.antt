use Rattle.std.proofs.Common.{map}
use Rattle.gc_types.specs.Declarations.{constant_field}
use Rattle.gc_types.specs.Layouts.{exception_base}
use Rattle.gc_types.proofs.RefLemmas.{references_placed}
use Rattle.gc_types.proofs.layout_laws.exn_references_are_aligned.Goals as goal

pub returns : goal.returns
returns c = λ heap params. references_placed (exception_base heap) (map constant_field params)
