use Rattle.gc_heap.proofs.NullHeapLemmas.{null_dropped}
use Rattle.gc_heap.proofs.null.NullHeapGcHeap.drop_gc_ref.Goals as goal

pub returns-clause-seen : goal.returns-clause-seen
returns-clause-seen c = null_dropped c.args.self.now c.args._gc_ref
