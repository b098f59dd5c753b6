use Rattle.gc_heap.proofs.NullHeapLemmas.{null_cloned}
use Rattle.gc_heap.proofs.null.NullHeapGcHeap.count_gc_ref.Goals as goal

pub returns-clause-seen : goal.returns-clause-seen
returns-clause-seen c = null_cloned c.args.self.now c.args._gc_ref.now
