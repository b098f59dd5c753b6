use Rattle.std.proofs.Common.{ap}
use Rattle.gc_wasm_types.specs.Values.{handle, or_absent, reference_type}
use Rattle.gc_wasm_types.proofs.Checking.{checks_handle, checks_absent}
use Rattle.gc_wasm_types.proofs.handles.OptionWasmTy.dynamic_concrete_type_check.Goals as goal

pub returns-in-Some : goal.returns-in-Some
returns-in-Some g c t holds =
    checks_handle c.args.store.now t (reference_type c.args.nullable c.args.actual.now) c.CLASS.result g.R.Mark.GcRef.CLASS c.CLASS.ensures _ c.check_reference.result
    c.root.result (g.R.WasmHandle.root c.in-Some.handle) c.root.ensures (ap (or_absent (λ (h : g.row.R.Denot). handle (g.R.WasmHandle.root h))) c.in-Some.is) (c.check_reference.ensures t holds)

pub returns-in-None : goal.returns-in-None
returns-in-None g c t holds =
    checks_absent c.args.store.now t (reference_type c.args.nullable c.args.actual.now) c.CLASS-in-None.result g.R.Mark.GcRef.CLASS c.CLASS-in-None.ensures _ c.check_reference-in-None.result
    (ap (or_absent (λ (h : g.row.R.Denot). handle (g.R.WasmHandle.root h))) c.in-None.is) (c.check_reference-in-None.ensures t holds)
