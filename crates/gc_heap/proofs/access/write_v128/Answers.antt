use Rattle.std.proofs.Common.{◌≡◌, subst}
use Rattle.std.specs.Int.{w128}
use Rattle.gc_refs.specs.LittleEndian.{unsigned_bytes}
use Rattle.gc_heap.specs.Heap.{put_object, with_data}
use Rattle.gc_heap.proofs.access.write_v128.Goals as goal

pub returns-clause-written : goal.returns-clause-written
returns-clause-written g c = λ o e.
    subst (λ bits. g.H.GcHeap.seen c.write_object_data.new.self ≡ put_object (g.H.GcHeap.seen c.args.heap.now) c.args.gc_ref.now (with_data g.H.GcHeap.KIND o c.args.offset (unsigned_bytes w128 bits)))
    c.as_u128.ensures (rw c.to_le_bytes.ensures at c.write_object_data.ensures.seen o e)
