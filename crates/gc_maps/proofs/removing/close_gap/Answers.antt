use Rattle.gc_model.proofs.AccountLemmas.{some_account}
use Rattle.gc_maps.proofs.GapLemmas.{left_closes, left_in, right_closes, right_in}
use Rattle.gc_maps.proofs.TakingOut.{closes_passed, gap_passed}
use Rattle.gc_maps.proofs.NodeReads.{part_reads, same_here}
use Rattle.gc_maps.proofs.removing.close_gap.Goals as goal

pub pull_up-requires-clause-gap : goal.pull_up-requires-clause-gap
pull_up-requires-clause-gap g c = gap_passed g.H.GcHeap.KIND c.args.store.now c.args.key c.ranges.key c.args.path.now.items c.args.node c.requires

pub returns-in-Some-left-clause-closes : goal.returns-in-Some-left-clause-closes
returns-in-Some-left-clause-closes g c =
    closes_passed g.H.GcHeap.KIND c.args.store.now c.args.path.now.items c.args.node c.pull_up.new.path.items c.pull_up.new.store c.args.key c.ranges.key c.pull_up.result c.pull_up.ensures.closes

pub part_of-requires : goal.part_of-requires
part_of-requires g c =
    let q = c.requires in
    let some = some_account g.H.GcHeap.KIND c.args.store.now q.table q.holds in
    right_in g.H.GcHeap.KIND c.args.store.now q.table some.0 some.1 q.ty q.tree c.args.key c.args.path.now.items c.args.node q.search q.low q.descended

pub part_of-requires-in-None : goal.part_of-requires-in-None
part_of-requires-in-None g c =
    let q = c.requires in
    let some = some_account g.H.GcHeap.KIND c.args.store.now q.table q.holds in
    left_in g.H.GcHeap.KIND c.args.store.now q.table some.0 some.1 q.ty q.tree c.args.key c.args.path.now.items c.args.node q.search q.low q.descended

pub returns-in-None-left-clause-closes : goal.returns-in-None-left-clause-closes
returns-in-None-left-clause-closes g c t a ty tree holds ordered low d =
    right_closes g.H.GcHeap.KIND c.args.store.now t a holds ty tree c.args.key c.args.path.now.items c.args.node ordered low d c.args.store.now (same_here c.args.store.now) c.part_of.result c.in-None-left.is (part_reads g.H.GcHeap.KIND c.args.store.now c.args.node.right c.part_of.result c.part_of.ensures)

pub returns-in-None-clause-closes : goal.returns-in-None-clause-closes
returns-in-None-clause-closes g c t a ty tree holds ordered low d =
    left_closes g.H.GcHeap.KIND c.args.store.now t a holds ty tree c.args.key c.args.path.now.items c.args.node ordered low d c.args.store.now (same_here c.args.store.now) c.part_of-in-None.result c.in-None.is (part_reads g.H.GcHeap.KIND c.args.store.now c.args.node.left c.part_of-in-None.result c.part_of-in-None.ensures)
