use Rattle.gc_heap.proofs.NullHeapLemmas.{null_exposed}
use Rattle.gc_heap.proofs.null.NullHeapGcHeap.expose_gc_ref_to_wasm.Goals as goal

pub returns-clause-seen : goal.returns-clause-seen
returns-clause-seen c = null_exposed c.args.self.now c.args._gc_ref
