use Rattle.gc_types.specs.Declarable.{IsKnownVal}
use Rattle.gc_types.proofs.CheckLemmas.{known_more}
use Rattle.gc_types.proofs.checks.are_known_values.Goals as goal

pub loop-value-preserved : goal.loop-value-preserved
loop-value-preserved c =
    known_more (IsKnownVal c.args.types.now) c.args.values.now c.loop-value.value-index c.value-item.result c.loop-value-test.true c.value-item.is
    (c.is_known_value.ensures.0 c.if-not-is_known_value.false) c.loop-value.invariant
