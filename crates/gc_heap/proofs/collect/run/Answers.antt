use Rattle.std.proofs.Common.{true, refl}
use Rattle.gc_heap.specs.Collection.{Start}
use Rattle.gc_heap.specs.Run.{start_at}
use Rattle.gc_heap.proofs.collect.run.Goals as goal

-- src/collect.rt:86:5
pub collect-requires : goal.collect-requires
collect-requires g c =
    let s : Start = start_at (g.H.GcHeap.seen c.args.heap.now) c.args.roots.now.roots c.args.trace.now.types.now.declarations c.args.trace.now.host_data_table.now.entries in
    (s, (0, (true, g.met.H.GcHeap.starts s c.args.heap.now c.begin-state.result c.requires.sound c.begin-state.ensures.begun refl c.requires.can)))

-- src/collect.rt:70:1
pub returns-clause-collected : goal.returns-clause-collected
returns-clause-collected g c =
    let s : Start = start_at (g.H.GcHeap.seen c.args.heap.now) c.args.roots.now.roots c.args.trace.now.types.now.declarations c.args.trace.now.host_data_table.now.entries in
    c.collect.ensures.collected s 0 true (g.met.H.GcHeap.starts s c.args.heap.now c.begin-state.result c.requires.sound c.begin-state.ensures.begun refl c.requires.can)
