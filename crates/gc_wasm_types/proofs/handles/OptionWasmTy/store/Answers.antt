use Rattle.std.proofs.Common.{true, ap, refl}
use Rattle.gc_wasm_types.specs.Values.{handle, or_absent, references}
use Rattle.gc_wasm_types.proofs.Storing.{stores_handle, stores_absent, names_handle, absent_loads}
use Rattle.gc_wasm_types.proofs.handles.OptionWasmTy.store.Goals as goal

pub returns-in-Some-clause-stores : goal.returns-in-Some-clause-stores
returns-in-Some-clause-stores g c t place holds =
    stores_handle c.args.store.now t place _ c.store_root.new.into c.root.result (g.R.WasmHandle.root c.in-Some.handle) c.root.ensures (ap (or_absent (λ (h : g.row.R.Denot). handle (g.R.WasmHandle.root h))) c.in-Some.is) c.store_root.result
    (c.store_root.ensures.stores t place holds)

pub returns-in-None-clause-stores : goal.returns-in-None-clause-stores
returns-in-None-clause-stores g c t place holds =
    stores_absent c.args.store.now t place _ c.write_word.new.into 0 c.write_word.ensures.bytes c.write_word.ensures.word (ap (or_absent (λ (h : g.row.R.Denot). handle (g.R.WasmHandle.root h))) c.in-None.is) refl

pub returns-in-Some-clause-word : goal.returns-in-Some-clause-word
returns-in-Some-clause-word g c is =
    c.store_root.ensures.word g.R.Mark.GcRef.KIND true
    (names_handle g.row.D.Denot g.H.GcHeap.KIND c.args.store.now g.R.Mark.GcRef.KIND _ c.root.result (g.R.WasmHandle.root c.in-Some.handle) c.root.ensures (ap (or_absent (λ (h : g.row.R.Denot). handle (g.R.WasmHandle.root h))) c.in-Some.is) is)

pub returns-in-None-clause-word : goal.returns-in-None-clause-word
returns-in-None-clause-word g c is = absent_loads g.row.D.Denot g.H.GcHeap.KIND c.args.store.now (references g.R.Mark.GcRef.KIND) _ c.write_word.ensures.word
