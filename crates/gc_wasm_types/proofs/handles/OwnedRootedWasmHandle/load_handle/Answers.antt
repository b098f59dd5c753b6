use Rattle.gc_wasm_types.proofs.Loaded.{owned_loads, owned_kinds}
use Rattle.gc_wasm_types.proofs.handles.OwnedRootedWasmHandle.load_handle.Goals as goal

pub returns-clause-loads : goal.returns-clause-loads
returns-clause-loads g c t place a r there is = owned_loads g.H.GcHeap.KIND t place a r c.load_owned.new.store c.load_owned.result (c.load_owned.ensures.owns t place a r there is)

pub returns-clause-kind : goal.returns-clause-kind
returns-clause-kind g c = owned_kinds g.row.D.Denot g.H.GcHeap.KIND c.load_owned.new.store g.T.GcRef.KIND c.load_owned.result c.load_owned.ensures.kind
