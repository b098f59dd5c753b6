use Rattle.gc_copying.proofs.BackingLemmas.{seen_dropped}
use Rattle.gc_copying.proofs.heap.CopyingHeapGcHeap.drop_gc_ref.Goals as goal

pub returns-clause-seen : goal.returns-clause-seen
returns-clause-seen c = seen_dropped c.args.self.now c.args.gc_ref
