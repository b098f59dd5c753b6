use Rattle.std.proofs.Common.{map}
use Rattle.gc_image.specs.Well.{IsWellObject, as_object}
use Rattle.gc_image.proofs.ElementLemmas.{Below}
use Rattle.gc_image.proofs.objects.are_objects_well.Given as goal

abbrev pub invariant-loop-number : goal.invariant-loop-number
invariant-loop-number l = Below (IsWellObject l.types.declarations (map as_object l.objects)) l.objects l.number
