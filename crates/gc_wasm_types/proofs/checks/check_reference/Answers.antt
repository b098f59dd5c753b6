use Rattle.gc_wasm_types.specs.Values.{reference_type}
use Rattle.gc_wasm_types.proofs.Checking.{fit_told, refusal_told}
use Rattle.gc_wasm_types.proofs.checks.check_reference.Goals as goal

pub returns-in-Ok-true : goal.returns-in-Ok-true
returns-in-Ok-true g c t holds =
    fit_told c.args.store.now t (reference_type c.args.nullable c.args.actual.now) c.args.class c.args.root c.in-Ok-true.field-0 _ c.in-Ok-true.field-0-test (c.in-Ok-true.ensures t holds)

pub returns-in-Ok-false : goal.returns-in-Ok-false
returns-in-Ok-false g c t holds =
    fit_told c.args.store.now t (reference_type c.args.nullable c.args.actual.now) c.args.class c.args.root c.in-Ok-false.field-0 _ c.in-Ok-false.field-0-test (c.in-Ok-false.ensures t holds)

pub returns-in-Err : goal.returns-in-Err
returns-in-Err g c t holds =
    refusal_told c.args.store.now t (reference_type c.args.nullable c.args.actual.now) c.args.class c.args.root c.in-Err.fault c.accessed.result c.accessed.ensures (c.in-Err.ensures t holds)
