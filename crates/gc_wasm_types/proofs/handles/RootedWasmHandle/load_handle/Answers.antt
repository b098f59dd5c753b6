use Rattle.gc_wasm_types.proofs.Loaded.{scoped_loads, scoped_kinds, scoped_null}
use Rattle.gc_wasm_types.specs.Values.{raw_word}
use Rattle.gc_wasm_types.proofs.handles.RootedWasmHandle.load_handle.Goals as goal

pub returns-clause-loads : goal.returns-clause-loads
returns-clause-loads g c t place a r there is = scoped_loads g.H.GcHeap.KIND t place a r c.load_scoped.new.store c.load_scoped.result (c.load_scoped.ensures.takes t place a r there is)

pub returns-clause-kind : goal.returns-clause-kind
returns-clause-kind g c = scoped_kinds g.row.D.Denot g.H.GcHeap.KIND c.load_scoped.new.store g.T.GcRef.KIND c.load_scoped.result c.load_scoped.ensures.kind

pub returns-clause-null : goal.returns-clause-null
returns-clause-null g c = scoped_null (raw_word c.args.from.now) c.load_scoped.result c.load_scoped.ensures.null
