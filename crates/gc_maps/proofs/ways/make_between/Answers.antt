use Rattle.gc_model.proofs.AccountLemmas.{some_account}
use Rattle.gc_maps.proofs.Putting.{second_in, can_between, between_made}
use Rattle.gc_maps.proofs.NodeReads.{part_reads, same_here}
use Rattle.gc_maps.proofs.ways.make_between.Goals as goal

pub part_of-right-requires : goal.part_of-right-requires
part_of-right-requires g c =
    let q = c.requires in
    let some = some_account g.H.GcHeap.KIND c.args.store.now q.table q.holds in
    second_in g.H.GcHeap.KIND c.args.kit.now c.args.store.now c.args.store.now (same_here c.args.store.now) c.args.left c.args.right c.part_of-left.result (part_reads g.H.GcHeap.KIND c.args.store.now c.args.left c.part_of-left.result c.part_of-left.ensures)
    q.table some.0 some.1 q.in_left q.in_right q.left_is q.right_is q.low_left q.low_right

pub make_node-requires : goal.make_node-requires
make_node-requires g c =
    let q = c.requires in
    let some = some_account g.H.GcHeap.KIND c.args.store.now q.table q.holds in
    can_between g.H.GcHeap.KIND c.args.kit.now c.args.store.now c.args.store.now (same_here c.args.store.now) c.args.left c.args.right c.part_of-left.result (part_reads g.H.GcHeap.KIND c.args.store.now c.args.left c.part_of-left.result c.part_of-left.ensures)
    q.table some.0 some.1 q.in_left q.in_right q.left_is q.right_is q.low_left q.low_right
    c.args.store.now (same_here c.args.store.now) c.part_of-right.result (part_reads g.H.GcHeap.KIND c.args.store.now c.args.right c.part_of-right.result c.part_of-right.ensures) q.of_nodes

pub returns-clause-makes : goal.returns-clause-makes
returns-clause-makes g c t a x y holds left_is right_is low_x low_y =
    between_made g.H.GcHeap.KIND c.args.kit.now c.args.store.now c.args.store.now (same_here c.args.store.now) c.args.left c.args.right c.part_of-left.result (part_reads g.H.GcHeap.KIND c.args.store.now c.args.left c.part_of-left.result c.part_of-left.ensures)
    t a holds x y left_is right_is low_x low_y
    c.args.store.now (same_here c.args.store.now) c.part_of-right.result (part_reads g.H.GcHeap.KIND c.args.store.now c.args.right c.part_of-right.result c.part_of-right.ensures)
    c.args.key c.args.value c.ranges.key c.ranges.value c.make_node.new.store (g.L.ResourceLimiter.limits c.args.limiter.now) (g.L.ResourceLimiter.limits c.make_node.new.limiter) c.make_node.result c.make_node.ensures.makes
