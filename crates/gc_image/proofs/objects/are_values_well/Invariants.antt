use Rattle.std.proofs.Common.{map}
use Rattle.gc_image.specs.Well.{IsWellValue, as_object}
use Rattle.gc_image.proofs.ElementLemmas.{Below}
use Rattle.gc_image.proofs.objects.are_values_well.Given as goal

abbrev pub invariant-loop-index : goal.invariant-loop-index
invariant-loop-index l = Below (IsWellValue l.types.declarations (map as_object l.objects) l.number l.line) l.values l.index
