use Rattle.std.proofs.Common.{false, refl}
use Rattle.gc_wasm_types.specs.Values.{handle}
use Rattle.gc_wasm_types.proofs.Storing.{stores_handle, names_handle}
use Rattle.gc_wasm_types.proofs.handles.AnyWasmTy.store.Goals as goal

pub returns-clause-stores : goal.returns-clause-stores
returns-clause-stores g c t place holds =
    stores_handle c.args.store.now t place (handle (g.R.WasmHandle.root c.args.self.now)) c.store_root.new.into c.root.result (g.R.WasmHandle.root c.args.self.now) c.root.ensures refl c.store_root.result
    (c.store_root.ensures.stores t place holds)

pub returns-clause-word : goal.returns-clause-word
returns-clause-word g c is =
    c.store_root.ensures.word g.R.Mark.GcRef.KIND false
    (names_handle g.row.D.Denot g.H.GcHeap.KIND c.args.store.now g.R.Mark.GcRef.KIND (handle (g.R.WasmHandle.root c.args.self.now)) c.root.result (g.R.WasmHandle.root c.args.self.now) c.root.ensures refl is)
