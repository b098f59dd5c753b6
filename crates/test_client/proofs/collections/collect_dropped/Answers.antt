use Rattle.std.proofs.Common.{true, refl}
use Rattle.gc_heap.specs.Collection.{Start, has_host}
use Rattle.gc_heap.proofs.AgainLemmas.{can_collect_again}
use Rattle.test_client.specs.Collecting.{start_around}
use Rattle.test_client.proofs.collections.collect_dropped.Goals as goal

pub finish_after_one-requires-clause-begun : goal.finish_after_one-requires-clause-begun
finish_after_one-requires-clause-begun g c =
    let s : Start = start_around (g.H.GcHeap.seen c.args.heap.now) c.args.around.now in
    (s, (true, g.met.H.GcHeap.starts s c.args.heap.now c.begin-state.result c.requires.sound c.begin-state.ensures.begun refl c.requires.can))

pub returns-clause-can : goal.returns-clause-can
returns-clause-can g c =
    let s : Start = start_around (g.H.GcHeap.seen c.args.heap.now) c.args.around.now in
    let under_way = g.met.H.GcHeap.starts s c.args.heap.now c.begin-state.result c.requires.sound c.begin-state.ensures.begun refl c.requires.can in
    can_collect_again g.H.GcHeap.KIND s (g.H.GcHeap.seen c.finish_after_one.new.heap) c.finish_after_one.new.roots.roots (has_host c.finish_after_one.new.trace.host_data_table.now.entries)
    (g.met.H.GcHeap.is_heap c.args.heap.now c.requires.sound) c.requires.can (c.finish_after_one.ensures.collected s true under_way)
