use Rattle.gc_copying.proofs.BackingLemmas.{seen_overwritten}
use Rattle.gc_copying.proofs.heap.CopyingHeapGcHeap.write_gc_ref.Goals as goal

pub returns-clause-seen : goal.returns-clause-seen
returns-clause-seen c = seen_overwritten c.args.self.now _ _
