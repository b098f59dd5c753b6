use Rattle.gc_drc.proofs.BackingLemmas.{needs_none}
use Rattle.gc_drc.proofs.heap.DrcHeapGcHeap.needs_gc_before_next_growth.Goals as goal

pub returns : goal.returns
returns c = needs_none c.args.self.now.scopes c.args.self.now.backing
