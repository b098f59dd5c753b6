use Rattle.std.proofs.Common.{◌≡◌, ◌+◌, ℕ, true, refl, arith}
use Rattle.gc_heap.specs.Collection.{Start}
use Rattle.gc_heap.specs.Run.{start_at}
use Rattle.gc_heap.proofs.collect.run_counted.Goals as goal

-- src/collect.rt:86:5
pub collect_counted-requires : goal.collect_counted-requires
collect_counted-requires g c =
    let s : Start = start_at (g.H.GcHeap.seen c.args.heap.now) c.args.roots.now.roots c.args.trace.now.types.now.declarations c.args.trace.now.host_data_table.now.entries in
    (s, (0, (true, g.met.H.GcHeap.starts s c.args.heap.now c.begin-state.result c.requires.sound c.begin-state.ensures.begun refl c.requires.can)))

-- src/collect.rt:70:1
pub returns-clause-collected : goal.returns-clause-collected
returns-clause-collected g c =
    let s : Start = start_at (g.H.GcHeap.seen c.args.heap.now) c.args.roots.now.roots c.args.trace.now.types.now.declarations c.args.trace.now.host_data_table.now.entries in
    c.collect_counted.ensures.collected s 0 true (g.met.H.GcHeap.starts s c.args.heap.now c.begin-state.result c.requires.sound c.begin-state.ensures.begun refl c.requires.can)

pub returns-clause-counted : goal.returns-clause-counted
returns-clause-counted g c =
    let s : Start = start_at (g.H.GcHeap.seen c.args.heap.now) c.args.roots.now.roots c.args.trace.now.types.now.declarations c.args.trace.now.host_data_table.now.entries in
    let under_way = g.met.H.GcHeap.starts s c.args.heap.now c.begin-state.result c.requires.sound c.begin-state.ensures.begun refl c.requires.can in
    let n : ℕ = g.H.GcHeap.ticks c.collect_counted.new.state in
    let ticks : n + c.args.steps.now ≡ g.H.GcHeap.ticks c.begin-state.result + c.collect_counted.new.steps = c.collect_counted.ensures.ticks in
    let begun : g.H.GcHeap.ticks c.begin-state.result ≡ 0 = c.begin-state.ensures.ticks in
    (n, (c.collect_counted.ensures.counted s 0 true under_way refl, omega arith))
