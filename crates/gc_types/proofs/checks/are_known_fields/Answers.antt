use Rattle.gc_types.specs.Declarable.{IsKnownField}
use Rattle.gc_types.proofs.CheckLemmas.{known_more}
use Rattle.gc_types.proofs.checks.are_known_fields.Goals as goal

pub loop-field-preserved : goal.loop-field-preserved
loop-field-preserved c =
    known_more (IsKnownField c.args.types.now) c.args.fields.now c.loop-field.field-index c.field-item.result c.loop-field-test.true c.field-item.is
    (c.is_known_field.ensures.0 c.if-not-is_known_field.false) c.loop-field.invariant
