use Rattle.gc_copying.proofs.BackingLemmas.{seen_exposed}
use Rattle.gc_copying.proofs.heap.CopyingHeapGcHeap.expose_gc_ref_to_wasm.Goals as goal

pub returns-clause-seen : goal.returns-clause-seen
returns-clause-seen c = seen_exposed c.args.self.now c.args.gc_ref
