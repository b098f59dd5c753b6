use Rattle.std.proofs.Common.{ap, refl}
use Rattle.gc_wasm_types.specs.Values.{number, or_absent, reference_type}
use Rattle.gc_wasm_types.proofs.Checking.{checks_absent}
use Rattle.gc_wasm_types.proofs.numbers.OptionI31WasmTy.dynamic_concrete_type_check.Goals as goal

pub returns-in-None : goal.returns-in-None
returns-in-None g c t holds =
    checks_absent c.args.store.now t (reference_type c.args.nullable c.args.actual.now) _ _ refl _ c.check_reference.result (ap (or_absent number) c.in-None.is) (c.check_reference.ensures t holds)
