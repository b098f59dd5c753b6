use Rattle.std.proofs.Common.{refl}
use Rattle.gc_heap.specs.Heap.{IsArrayKind, new_array, array_size}
use Rattle.test_client.specs.Made.{MadeArray}
use Rattle.test_client.proofs.StayLemmas.{given_stays, held_made}
use Rattle.gc_heap.proofs.GivenLemmas.{can_give_back}
use Rattle.test_client.proofs.allocation.give_array_back.Goals as goal
use Rattle.test_client.proofs.allocation.give_array_back.Goals.{In-Ok}

made : (g : _) (c : In-Ok g) → MadeArray g.H.GcHeap.KIND c.args.types.now.declarations c.args.ty c.args.length (g.H.GcHeap.seen c.args.heap.now) (g.H.GcHeap.seen c.make_array.new.heap) c.in-Ok.array
made g c = c.in-Ok.ensures.made

pub dealloc_uninit_array-requires-clause-held : goal.dealloc_uninit_array-requires-clause-held
dealloc_uninit_array-requires-clause-held g c =
    let m = made g (goal.at.dealloc_uninit_array-requires-clause-held g c).In-Ok in
    can_give_back g.H.GcHeap.KIND (g.H.GcHeap.seen c.args.heap.now) (g.H.GcHeap.seen c.make_array.new.heap) c.in-Ok.array (array_size m.layout c.args.length) (new_array g.H.GcHeap.KIND c.args.ty c.args.length m.layout) IsArrayKind
    refl (g.met.H.GcHeap.is_heap c.args.heap.now c.requires.sound) m.adds

pub returns-in-Ok-clause-stays : goal.returns-in-Ok-clause-stays
returns-in-Ok-clause-stays g c =
    let m = made g (goal.at.returns-in-Ok-clause-stays g c).In-Ok in
    let o = new_array g.H.GcHeap.KIND c.args.ty c.args.length m.layout in
    given_stays g.H.GcHeap.KIND (g.H.GcHeap.seen c.args.heap.now) (g.H.GcHeap.seen c.make_array.new.heap) (g.H.GcHeap.seen c.dealloc_uninit_array.new.self) c.in-Ok.array (array_size m.layout c.args.length) o m.adds
    (c.dealloc_uninit_array.ensures.seen o (held_made g.H.GcHeap.KIND (g.H.GcHeap.seen c.args.heap.now) (g.H.GcHeap.seen c.make_array.new.heap) c.in-Ok.array (array_size m.layout c.args.length) o m.adds))
