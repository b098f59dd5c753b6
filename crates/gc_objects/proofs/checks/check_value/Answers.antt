use Rattle.std.proofs.Common.{true, refl}
use Rattle.gc_objects.proofs.CheckLemmas.{untyped_misfits, value_goes_there, value_misfits}
use Rattle.gc_objects.proofs.checks.check_value.Goals as goal

pub returns-in-None-clause-checks : goal.returns-in-None-clause-checks
returns-in-None-clause-checks g c t holds = untyped_misfits c.args.store.now t c.args.field c.args.value.now true refl (c.if-not-is_live.ensures.live t holds) c.in-None.is

pub returns-then-value_fits-clause-checks : goal.returns-then-value_fits-clause-checks
returns-then-value_fits-clause-checks g c t holds =
    value_goes_there c.args.store.now t c.args.field c.args.value.now true refl (c.if-not-is_live.ensures.live t holds) c.in-Some.field c.in-Some.is
    c.unpack.result c.raw_of.result c.value_fits.result c.unpack.ensures c.raw_of.ensures (λ x. c.value_fits.ensures t x holds) c.if-value_fits.true

pub returns-else-value_fits-clause-checks : goal.returns-else-value_fits-clause-checks
returns-else-value_fits-clause-checks g c t holds =
    value_misfits c.args.store.now t c.args.field c.args.value.now true refl (c.if-not-is_live.ensures.live t holds) c.in-Some.field c.in-Some.is
    c.unpack.result c.raw_of.result c.value_fits.result c.unpack.ensures c.raw_of.ensures (λ x. c.value_fits.ensures t x holds) c.if-value_fits.false
