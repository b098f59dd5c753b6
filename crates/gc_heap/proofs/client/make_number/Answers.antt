use Rattle.gc_heap.specs.Heap.{AddsObject, new_struct}
use Rattle.gc_heap.proofs.NumberLemmas.{held_added, is_writable, makes_number}
use Rattle.gc_heap.proofs.client.make_number.Goals as goal

-- src/client.rt:34:13
pub write_u32-requires-clause-inside : goal.write_u32-requires-clause-inside
write_u32-requires-clause-inside g c =
    let L = g.H.GcHeap.KIND in
    let added : AddsObject L (g.H.GcHeap.seen c.args.heap.now) (g.H.GcHeap.seen c.alloc_uninit_struct_or_exn.new.self) c.in-Ok-Ok.object (new_struct L c.args.ty c.args.layout.now) c.args.layout.now.size =
    rw c.in-Ok-Ok.field-0-is at c.in-Ok-Ok.ensures.allocated in
    is_writable L c.requires.layout.0 c.args.ty c.args.layout.now c.args.offset (g.H.GcHeap.seen c.args.heap.now) (g.H.GcHeap.seen c.alloc_uninit_struct_or_exn.new.self) c.in-Ok-Ok.object c.requires.layout.1 added

-- src/client.rt:18:1
pub returns-in-Ok-Ok-clause-made : goal.returns-in-Ok-Ok-clause-made
returns-in-Ok-Ok-clause-made g c = λ types is.
    let L = g.H.GcHeap.KIND in
    let between = g.H.GcHeap.seen c.alloc_uninit_struct_or_exn.new.self in
    let added : AddsObject L (g.H.GcHeap.seen c.args.heap.now) between c.in-Ok-Ok.object (new_struct L c.args.ty c.args.layout.now) c.args.layout.now.size =
    rw c.in-Ok-Ok.field-0-is at c.in-Ok-Ok.ensures.allocated in
    let held = held_added L (g.H.GcHeap.seen c.args.heap.now) between c.in-Ok-Ok.object (new_struct L c.args.ty c.args.layout.now) c.args.layout.now.size added in
    makes_number L types c.args.ty c.args.layout.now c.args.offset c.args.number (g.H.GcHeap.seen c.args.heap.now) between (g.H.GcHeap.seen c.write_u32.new.heap) c.in-Ok-Ok.object
    is c.ranges.number.fits added (c.write_u32.ensures.written (new_struct L c.args.ty c.args.layout.now) held)
