use Rattle.std.proofs.Common.{◌∙◌}
use Rattle.gc_copying.proofs.BackingLemmas.{objects_counted}
use Rattle.gc_copying.proofs.heap.CopyingHeapGcHeap.object_count.Goals as goal

pub returns : goal.returns
returns c = c.object_count.ensures ∙ objects_counted c.args.self.now.scopes c.args.self.now.backing c.requires.backed
