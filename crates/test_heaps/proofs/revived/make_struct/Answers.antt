use Rattle.std.proofs.Common.{subst}
use Rattle.gc_types.specs.declared.kind.Layouts.{Layouts}
use Rattle.gc_heap.specs.Heap.{AddsObject, new_struct}
use Rattle.test_heaps.proofs.revived.make_struct.Goals as goal

pub returns-in-Ok-clause-made : goal.returns-in-Ok-clause-made
returns-in-Ok-clause-made g c =
    let seen = g.H.GcHeap.seen in
    let added : AddsObject g.H.GcHeap.KIND (seen c.args.heap.now) (seen c.alloc_uninit_struct_or_exn.new.self) c.in-Ok.object (new_struct g.H.GcHeap.KIND c.args.ty c.args.layout.now) c.args.layout.now.size =
    rw c.in-Ok.is at c.in_ok-object.ensures.allocated in
    subst (λ (l : Layouts). AddsObject l (seen c.args.heap.now) (seen c.alloc_uninit_struct_or_exn.new.self) c.in-Ok.object (new_struct l c.args.ty c.args.layout.now) c.args.layout.now.size) c.requires.counting added
