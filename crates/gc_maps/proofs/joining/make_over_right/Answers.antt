use Rattle.std.proofs.Common.{arith}
use Rattle.gc_model.proofs.AccountLemmas.{some_account}
use Rattle.gc_maps.specs.Parts.{PartIs, node_of}
use Rattle.gc_maps.proofs.Steps.{first_refused, can_over_right, made_over_right}
use Rattle.gc_maps.proofs.joining.make_over_right.Goals as goal

pub make_node-requires : goal.make_node-requires
make_node-requires g c =
    let q = c.requires in
    record {
      of_nodes = q.of_nodes;
      table = q.table;
      holds = q.holds;
      in_left = record { tree = q.in_low.left; is = q.in_low.is.left; low = let l = q.in_low.low_left in omega (arith, l) };
      in_right = record { tree = q.in_low.right; is = q.in_low.is.right; low = let l = q.in_low.low_right in omega (arith, l) };
    }

pub make_node-requires-in-Ok : goal.make_node-requires-in-Ok
make_node-requires-in-Ok g c =
    let q = c.requires in
    let o = q.in_low in
    let some = some_account g.H.GcHeap.KIND c.args.store.now q.table q.holds in
    can_over_right g.H.GcHeap.KIND c.args.kit.now c.args.store.now c.make_node.new.store c.make_node.new.store c.make_node.ensures.same c.args.left c.args.low c.args.key c.args.value c.ranges.key c.ranges.value (g.L.ResourceLimiter.limits c.args.limiter.now) (g.L.ResourceLimiter.limits c.make_node.new.limiter) c.in-Ok.right c.in-Ok.ensures.makes q.table some.0 q.in_part.tree o.left o.key o.value o.right some.1 q.in_part.is o.is q.of_nodes q.in_part.low o.low_left o.low_right

pub returns-in-Ok-clause-makes : goal.returns-in-Ok-clause-makes
returns-in-Ok-clause-makes g c t a x y z k v holds in_part in_low =
    made_over_right g.H.GcHeap.KIND c.args.kit.now c.args.store.now c.make_node.new.store c.make_node-in-Ok.new.store c.make_node.ensures.same c.args.left c.args.low c.args.key c.args.value c.ranges.key c.ranges.value (g.L.ResourceLimiter.limits c.args.limiter.now) (g.L.ResourceLimiter.limits c.make_node.new.limiter) c.in-Ok.right c.in-Ok.ensures.makes t a x y k v z holds in_part in_low c.make_node.ensures.counts (g.L.ResourceLimiter.limits c.make_node-in-Ok.new.limiter) c.make_node-in-Ok.ensures.limit c.make_node-in-Ok.result c.make_node-in-Ok.ensures.makes

pub returns-in-Err-clause-makes : goal.returns-in-Err-clause-makes
returns-in-Err-clause-makes g c t a x y z k v holds in_part in_low =
    first_refused g.H.GcHeap.KIND c.args.kit.now c.args.store.now c.make_node.new.store c.make_node.new.store c.make_node.ensures.same c.args.left c.args.low c.args.key c.args.value c.ranges.key c.ranges.value (g.L.ResourceLimiter.limits c.args.limiter.now) (g.L.ResourceLimiter.limits c.make_node.new.limiter) c.in-Err.fault c.in-Err.ensures.makes t a y k v z holds in_low (λ s u part. PartIs s u c.args.kit.now.node part (node_of x c.args.key c.args.value (node_of y k v z)))
