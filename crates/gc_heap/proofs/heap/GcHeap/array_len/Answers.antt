use Rattle.gc_heap.proofs.MemoryLemmas.{nothing_held}
use Rattle.gc_heap.proofs.heap.GcHeap.array_len.Goals as goal

pub returns-in-None-clause-held : goal.returns-in-None-clause-held
returns-in-None-clause-held g c = λ object held kind. nothing_held (g.Self.GcHeap.seen c.args.self.now) c.args.r.now object (c.in-None.ensures.lent c.requires) held
