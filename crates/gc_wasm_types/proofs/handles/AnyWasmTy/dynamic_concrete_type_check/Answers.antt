use Rattle.std.proofs.Common.{refl}
use Rattle.gc_wasm_types.specs.Values.{handle, reference_type}
use Rattle.gc_wasm_types.proofs.Checking.{checks_handle}
use Rattle.gc_wasm_types.proofs.handles.AnyWasmTy.dynamic_concrete_type_check.Goals as goal

pub returns : goal.returns
returns g c t holds =
    checks_handle c.args.store.now t (reference_type c.args.nullable c.args.actual.now) c.CLASS.result g.R.Mark.GcRef.CLASS c.CLASS.ensures (handle (g.R.WasmHandle.root c.args.self.now)) c.check_reference.result
    c.root.result (g.R.WasmHandle.root c.args.self.now) c.root.ensures refl (c.check_reference.ensures t holds)
