use Rattle.std.proofs.Common.{length, sym, subst, refl, add-one}
use Rattle.std.proofs.lemmas.Option.{slice_get_read}
use Rattle.gc_objects.specs.Given.{types_of, ChecksValues}
use Rattle.gc_objects.proofs.CheckLemmas.{CheckedSoFar, checked_more, checked_refused, checked_all, checked_storable, err_is}
use Rattle.gc_objects.proofs.checks.check_values.Goals as goal

pub returns-in_err-check_value-clause-checks : goal.returns-in_err-check_value-clause-checks
returns-in_err-check_value-clause-checks g c t holds =
    subst (ChecksValues c.args.store.now t (types_of c.args.store.now.types c.args.types.now) c.args.values.now) (sym (err_is c.from_residual.result c.in_err-check_value.field-0.0 c.from_residual.ensures.1))
    (checked_refused g.row.D.Denot g.H.GcHeap.KIND c.args.store.now (types_of c.args.store.now.types c.args.types.now) c.args.values.now c.loop-index.index c.loop-index.invariant
    c.type_at.result c.index-values-index.result c.type_at.ensures
    (slice_get_read c.args.values.now (length c.args.values.now) c.loop-index.index c.index-values-index.result refl c.loop-index-test.true c.index-values-index.is)
    c.in_err-check_value.field-0.0 c.in_err-check_value.ensures.checks t holds)

pub loop-index-preserved : goal.loop-index-preserved
loop-index-preserved g c =
    subst (CheckedSoFar g.row.D.Denot g.H.GcHeap.KIND c.args.store.now (types_of c.args.store.now.types c.args.types.now) c.args.values.now) (sym (add-one c.loop-index.index))
    (checked_more g.row.D.Denot g.H.GcHeap.KIND c.args.store.now (types_of c.args.store.now.types c.args.types.now) c.args.values.now c.loop-index.index c.loop-index.invariant
    c.type_at.result c.index-values-index.result c.type_at.ensures
    (slice_get_read c.args.values.now (length c.args.values.now) c.loop-index.index c.index-values-index.result refl c.loop-index-test.true c.index-values-index.is)
    c.in_ok-check_value.ensures.stores c.in_ok-check_value.ensures.checks)

pub returns-clause-stores : goal.returns-clause-stores
returns-clause-stores g c =
    checked_storable g.row.D.Denot g.H.GcHeap.KIND c.args.store.now (types_of c.args.store.now.types c.args.types.now) c.args.values.now c.loop-index.index c.loop-index-test.false c.loop-index.invariant

pub returns-clause-checks : goal.returns-clause-checks
returns-clause-checks g c =
    checked_all g.row.D.Denot g.H.GcHeap.KIND c.args.store.now (types_of c.args.store.now.types c.args.types.now) c.args.values.now c.loop-index.index c.loop-index-test.false c.loop-index.invariant
