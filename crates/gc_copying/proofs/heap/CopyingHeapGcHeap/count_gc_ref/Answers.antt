use Rattle.gc_copying.proofs.BackingLemmas.{seen_cloned}
use Rattle.gc_copying.proofs.heap.CopyingHeapGcHeap.count_gc_ref.Goals as goal

pub returns-clause-seen : goal.returns-clause-seen
returns-clause-seen c = seen_cloned c.args.self.now c.args.gc_ref.now
