use Rattle.std.proofs.Common.{refl}
use Rattle.gc_copying.specs.States.{copying_seen}
use Rattle.gc_heap.proofs.MemoryLemmas.{held_even}
use Rattle.gc_copying.specs.CopyingHeapLaw.{copying_is_heap}
use Rattle.gc_copying.proofs.BackingLemmas.{put_same}
use Rattle.gc_copying.proofs.heap.CopyingHeapGcHeap.set_header.Goals as goal

pub returns-then-is_i31-clause-held : goal.returns-then-is_i31-clause-held
returns-then-is_i31-clause-held c = λ object held.
    absurd (held_even _ (copying_seen c.args.self.now) c.args.r.now object (copying_is_heap c.args.self.now c.requires.sound) held (c.is_i31.ensures.0 c.if-is_i31.true))

pub returns-else-is_i31-clause-held : goal.returns-else-is_i31-clause-held
returns-else-is_i31-clause-held c = λ object held. (refl, put_same (copying_seen c.args.self.now) c.args.r.now object held)
