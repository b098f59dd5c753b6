use Rattle.std.proofs.Common.{refl}
use Rattle.gc_heap.specs.NullLaws.{null_is_heap}
use Rattle.gc_heap.specs.NullStates.{null_seen}
use Rattle.gc_heap.proofs.MemoryLemmas.{held_even}
use Rattle.gc_heap.proofs.NullHeapLemmas.{put_same}
use Rattle.gc_heap.proofs.null.NullHeapGcHeap.set_header.Goals as goal

pub returns-then-is_i31-clause-held : goal.returns-then-is_i31-clause-held
returns-then-is_i31-clause-held c = λ object held.
    absurd (held_even _ (null_seen c.args.self.now) c.args.r.now object (null_is_heap c.args.self.now c.requires.sound) held (c.is_i31.ensures.0 c.if-is_i31.true))

pub returns-else-is_i31-clause-held : goal.returns-else-is_i31-clause-held
returns-else-is_i31-clause-held c = λ object held. (refl, put_same (null_seen c.args.self.now) c.args.r.now object held)
