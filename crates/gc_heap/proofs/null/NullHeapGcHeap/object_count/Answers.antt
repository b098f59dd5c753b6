use Rattle.gc_heap.proofs.NullHeapLemmas.{null_count}
use Rattle.gc_heap.proofs.null.NullHeapGcHeap.object_count.Goals as goal

pub returns : goal.returns
returns c = null_count c.args.self.now c.requires
