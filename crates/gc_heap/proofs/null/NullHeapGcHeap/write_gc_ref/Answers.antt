use Rattle.std.specs.Option.{option_copied}
use Rattle.gc_heap.proofs.NullHeapLemmas.{null_overwritten}
use Rattle.gc_heap.proofs.null.NullHeapGcHeap.write_gc_ref.Goals as goal

pub returns-in-Some-clause-seen : goal.returns-in-Some-clause-seen
returns-in-Some-clause-seen c = null_overwritten c.args.self.now c.args.destination.now (option_copied c.args.source)

pub returns-in-None-clause-seen : goal.returns-in-None-clause-seen
returns-in-None-clause-seen c = null_overwritten c.args.self.now c.args.destination.now (option_copied c.args.source)
