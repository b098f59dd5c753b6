use Rattle.std.proofs.Common.{arith}
use Rattle.gc_copying.proofs.heap.CopyingHeap.collect_alone.Goals as goal

pub returns-clause-copies : goal.returns-clause-copies
returns-clause-copies g c s n counted between = (c.collect_more.new.steps, c.collect_more.ensures.copies s n counted c.collect_more.new.steps between (omega (arith, c.new-steps.ensures)))
