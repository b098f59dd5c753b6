use Rattle.gc_heap.specs.Heap.{IsStructOrExn, new_struct}
use Rattle.test_client.specs.Made.{MadeStruct}
use Rattle.test_client.proofs.StayLemmas.{given_stays, held_made}
use Rattle.gc_heap.proofs.GivenLemmas.{can_give_back, struct_or_exn}
use Rattle.test_client.proofs.allocation.give_struct_back.Goals as goal
use Rattle.test_client.proofs.allocation.give_struct_back.Goals.{In-Ok}

made : (g : _) (c : In-Ok g) → MadeStruct g.H.GcHeap.KIND c.args.types.now.declarations c.args.ty (g.H.GcHeap.seen c.args.heap.now) (g.H.GcHeap.seen c.make_struct.new.heap) c.in-Ok.object
made g c = c.in-Ok.ensures.made

pub dealloc_uninit_struct_or_exn-requires-clause-held : goal.dealloc_uninit_struct_or_exn-requires-clause-held
dealloc_uninit_struct_or_exn-requires-clause-held g c =
    let m = made g (goal.at.dealloc_uninit_struct_or_exn-requires-clause-held g c).In-Ok in
    can_give_back g.H.GcHeap.KIND (g.H.GcHeap.seen c.args.heap.now) (g.H.GcHeap.seen c.make_struct.new.heap) c.in-Ok.object m.layout.size (new_struct g.H.GcHeap.KIND c.args.ty m.layout) IsStructOrExn
    (struct_or_exn m.layout.is_exception) (g.met.H.GcHeap.is_heap c.args.heap.now c.requires.sound) m.adds

pub returns-in-Ok-clause-stays : goal.returns-in-Ok-clause-stays
returns-in-Ok-clause-stays g c =
    let m = made g (goal.at.returns-in-Ok-clause-stays g c).In-Ok in
    given_stays g.H.GcHeap.KIND (g.H.GcHeap.seen c.args.heap.now) (g.H.GcHeap.seen c.make_struct.new.heap) (g.H.GcHeap.seen c.dealloc_uninit_struct_or_exn.new.self) c.in-Ok.object m.layout.size (new_struct g.H.GcHeap.KIND c.args.ty m.layout) m.adds
    (c.dealloc_uninit_struct_or_exn.ensures.seen (new_struct g.H.GcHeap.KIND c.args.ty m.layout) (held_made g.H.GcHeap.KIND (g.H.GcHeap.seen c.args.heap.now) (g.H.GcHeap.seen c.make_struct.new.heap) c.in-Ok.object m.layout.size (new_struct g.H.GcHeap.KIND c.args.ty m.layout) m.adds))
