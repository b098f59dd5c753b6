use Rattle.gc_heap.specs.Collection.{Start, has_host}
use Rattle.gc_heap.proofs.AgainLemmas.{can_collect_again}
use Rattle.test_client.specs.Collecting.{start_around}
use Rattle.test_client.proofs.collections.collect_run.Goals as goal

pub returns-clause-can : goal.returns-clause-can
returns-clause-can g c =
    let s : Start = start_around (g.H.GcHeap.seen c.args.heap.now) c.args.around.now in
    can_collect_again g.H.GcHeap.KIND s (g.H.GcHeap.seen c.run_whole.new.heap) c.run_whole.new.roots.roots (has_host c.run_whole.new.trace.host_data_table.now.entries)
    (g.met.H.GcHeap.is_heap c.args.heap.now c.requires.sound) c.requires.can c.run_whole.ensures.collected
