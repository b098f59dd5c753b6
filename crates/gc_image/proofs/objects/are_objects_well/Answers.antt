use Rattle.std.proofs.Common.{map, refl}
use Rattle.gc_image.specs.Well.{IsWellObject, as_object}
use Rattle.gc_image.proofs.ElementLemmas.{all_below, more_below}
use Rattle.gc_image.proofs.objects.are_objects_well.Goals as goal

pub loop-number-preserved : goal.loop-number-preserved
loop-number-preserved c =
    more_below (IsWellObject c.args.types.now.declarations (map as_object c.args.objects.now)) c.args.objects.now c.loop-number.number c.index-objects-number.result c.loop-number-test.true c.index-objects-number.is
    (c.if-not-is_object_well.ensures.0 refl) c.loop-number.invariant

pub returns : goal.returns
returns c = (
  λ e. all_below (IsWellObject c.args.types.now.declarations (map as_object c.args.objects.now)) c.args.objects.now c.loop-number.number c.loop-number-test.false c.loop-number.invariant,
  λ all. refl,
)
