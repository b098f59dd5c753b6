use Rattle.std.proofs.Common.{◌≡◌, ◌*◌, take, drop}
use Rattle.gc_view.specs.Bytes.{put_bytes}
use Rattle.gc_memory.proofs.memory.HeapMemory.copy_blocks.Given as goal

-- the bytes of so many blocks were copied
abbrev pub invariant-loop-index : goal.invariant-loop-index
invariant-loop-index l = l.self ≡ put_bytes l.fn.self l.to (take (16 * l.index) (drop l.from l.fn.self))
