use Rattle.std.proofs.Common.{◌+◌, take, drop, ap, ◌∙◌, arith}
use Rattle.gc_heap.proofs.AccessLemmas.{readable_lies, lies_as_data}
use Rattle.gc_heap.proofs.MemoryLemmas.{nothing_held}
use Rattle.gc_heap.proofs.access.bytes_of.Goals as goal

pub read_bytes-requires : goal.read_bytes-requires
read_bytes-requires g c =
    let lies = readable_lies g.H.GcHeap.KIND (g.H.GcHeap.seen c.args.heap.now) c.in-Some.memory.now c.args.gc_ref.now c.args.offset _ (c.in-Some.ensures.lent c.requires.sound) c.requires.inside in
    omega (arith, lies, c.as_raw_u32.ensures.value)

pub unreachable-requires : goal.unreachable-requires
unreachable-requires g c =
    nothing_held (g.H.GcHeap.seen c.args.heap.now) c.args.gc_ref.now c.requires.inside.object (c.in-None.ensures.lent c.requires.sound) c.requires.inside.held

pub returns : goal.returns
returns g c =
    lies_as_data g.H.GcHeap.KIND (g.H.GcHeap.seen c.args.heap.now) c.in-Some.memory.now c.args.gc_ref.now c.args.offset _ c.read_bytes.result (c.in-Some.ensures.lent c.requires.sound) c.requires.inside
    (c.read_bytes.ensures ∙ ap (λ at. take _ (drop (at + c.args.offset) c.in-Some.memory.now)) c.as_raw_u32.ensures.value)
