use Rattle.gc_heap.specs.Heap.{new_struct}
use Rattle.test_client.proofs.StayLemmas.{held_made}
use Rattle.test_client.proofs.allocation.make_with_spare.Goals as goal

pub set_spare-requires-clause-held : goal.set_spare-requires-clause-held
set_spare-requires-clause-held g c =
    let m = c.in-Ok.ensures.made in
    let o = new_struct g.H.GcHeap.KIND c.args.ty m.layout in
    (o, held_made g.H.GcHeap.KIND (g.H.GcHeap.seen c.args.heap.now) (g.H.GcHeap.seen c.make_struct.new.heap) c.in-Ok.object m.layout.size o m.adds)
