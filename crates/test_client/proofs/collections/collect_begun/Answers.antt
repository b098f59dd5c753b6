use Rattle.std.proofs.Common.{true, refl}
use Rattle.gc_heap.specs.Collection.{Start, has_host}
use Rattle.gc_heap.proofs.AgainLemmas.{can_collect_again}
use Rattle.test_client.specs.Collecting.{start_around}
use Rattle.test_client.proofs.collections.collect_begun.Goals as goal

pub collect_counted-requires : goal.collect_counted-requires
collect_counted-requires g c =
    let s : Start = start_around (g.H.GcHeap.seen c.args.heap.now) c.args.around.now in
    (s, (0, (true, g.met.H.GcHeap.starts s c.args.heap.now c.begin-state.result c.requires.sound c.begin-state.ensures.begun refl c.requires.can)))

pub returns-clause-can : goal.returns-clause-can
returns-clause-can g c =
    let s : Start = start_around (g.H.GcHeap.seen c.args.heap.now) c.args.around.now in
    let under_way = g.met.H.GcHeap.starts s c.args.heap.now c.begin-state.result c.requires.sound c.begin-state.ensures.begun refl c.requires.can in
    can_collect_again g.H.GcHeap.KIND s (g.H.GcHeap.seen c.collect_counted.new.heap) c.collect_counted.new.roots.roots (has_host c.collect_counted.new.trace.host_data_table.now.entries)
    (g.met.H.GcHeap.is_heap c.args.heap.now c.requires.sound) c.requires.can (c.collect_counted.ensures.collected s 0 true under_way)
