use Rattle.std.proofs.Common.{refl, arith}
use Rattle.gc_model.proofs.AccountLemmas.{some_account}
use Rattle.gc_maps.specs.Parts.{PartIs, node_of}
use Rattle.gc_maps.proofs.Steps.{can2, can3, refused1, refused2, three}
use Rattle.gc_maps.proofs.making.make_three.Goals as goal

pub make_node-requires : goal.make_node-requires
make_node-requires g c =
    let q = c.requires in
    record {
      of_nodes = q.of_nodes;
      table = q.table;
      holds = q.holds;
      in_left = record { tree = q.in_left.left; is = q.in_left.is.left; low = (let l = q.in_left.low_left in omega (arith, l)) };
      in_right = record { tree = q.in_left.right; is = q.in_left.is.right; low = (let l = q.in_left.low_right in omega (arith, l)) };
    }

pub returns-in-Err-clause-makes : goal.returns-in-Err-clause-makes
returns-in-Err-clause-makes g c t a x y z w j u k v holds in_left in_right =
    refused1 g.H.GcHeap.KIND c.args.kit.now c.args.store.now c.make_node.new.store c.make_node.new.store c.make_node.new.store c.make_node.ensures.same (record { engine = refl; number = refl; counter = refl }) c.args.left c.args.right c.args.key c.args.value c.ranges.key c.ranges.value (g.L.ResourceLimiter.limits c.args.limiter.now) (g.L.ResourceLimiter.limits c.make_node.new.limiter) c.in-Err.fault c.in-Err.ensures.makes t a x y j u holds in_left
    (λ s u' part. PartIs s u' c.args.kit.now.node part (node_of (node_of x j u y) c.args.key c.args.value (node_of z k v w)))

pub make_node-requires-2 : goal.make_node-requires-2
make_node-requires-2 g c =
    let q = c.requires in
    let l = q.in_left in
    let r = q.in_right in
    let some = some_account g.H.GcHeap.KIND c.args.store.now q.table q.holds in
    can2 g.H.GcHeap.KIND c.args.kit.now c.args.store.now c.make_node.new.store c.make_node.new.store c.make_node.new.store c.make_node.ensures.same (record { engine = refl; number = refl; counter = refl }) c.args.left c.args.right c.args.key c.args.value c.ranges.key c.ranges.value (g.L.ResourceLimiter.limits c.args.limiter.now) (g.L.ResourceLimiter.limits c.make_node.new.limiter) c.in-Ok.low c.in-Ok.ensures.makes q.table some.0 l.left l.right r.left r.right l.key l.value r.key r.value some.1 l.is r.is q.of_nodes r.low_left r.low_right

pub returns-in-Err-make_node-clause-makes : goal.returns-in-Err-make_node-clause-makes
returns-in-Err-make_node-clause-makes g c t a x y z w j u k v holds in_left in_right =
    refused2 g.H.GcHeap.KIND c.args.kit.now c.args.store.now c.make_node.new.store c.make_node-2.new.store c.make_node-2.new.store c.make_node.ensures.same c.make_node-2.ensures.same c.args.left c.args.right c.args.key c.args.value c.ranges.key c.ranges.value (g.L.ResourceLimiter.limits c.args.limiter.now) (g.L.ResourceLimiter.limits c.make_node.new.limiter) c.in-Ok.low c.in-Ok.ensures.makes t a x y z w j u k v holds in_left in_right c.make_node.ensures.counts (g.L.ResourceLimiter.limits c.make_node-2.new.limiter) c.make_node-2.ensures.limit c.in-Err-make_node.fault c.in-Err-make_node.ensures.makes
    (λ s u' part. PartIs s u' c.args.kit.now.node part (node_of (node_of x j u y) c.args.key c.args.value (node_of z k v w)))

pub make_node-requires-3 : goal.make_node-requires-3
make_node-requires-3 g c =
    let q = c.requires in
    let l = q.in_left in
    let r = q.in_right in
    let some = some_account g.H.GcHeap.KIND c.args.store.now q.table q.holds in
    can3 g.H.GcHeap.KIND c.args.kit.now c.args.store.now c.make_node.new.store c.make_node-2.new.store c.make_node-2.new.store c.make_node.ensures.same c.make_node-2.ensures.same c.args.left c.args.right c.args.key c.args.value c.ranges.key c.ranges.value (g.L.ResourceLimiter.limits c.args.limiter.now) (g.L.ResourceLimiter.limits c.make_node.new.limiter) c.in-Ok.low c.in-Ok.ensures.makes q.table some.0 l.left l.right r.left r.right l.key l.value r.key r.value some.1 l.is r.is c.make_node.ensures.counts (g.L.ResourceLimiter.limits c.make_node-2.new.limiter) c.make_node-2.ensures.limit c.make_node-2.ensures.counts c.in-Ok-make_node.high c.in-Ok-make_node.ensures.makes
    q.of_nodes l.low_left l.low_right r.low_left r.low_right

pub returns-clause-makes : goal.returns-clause-makes
returns-clause-makes g c t a x y z w j u k v holds in_left in_right =
    three g.H.GcHeap.KIND c.args.kit.now c.args.store.now c.make_node.new.store c.make_node-2.new.store c.make_node-3.new.store c.make_node.ensures.same c.make_node-2.ensures.same c.args.left c.args.right c.args.key c.args.value c.ranges.key c.ranges.value (g.L.ResourceLimiter.limits c.args.limiter.now) (g.L.ResourceLimiter.limits c.make_node.new.limiter) c.in-Ok.low c.in-Ok.ensures.makes t a x y z w j u k v holds in_left in_right c.make_node.ensures.counts (g.L.ResourceLimiter.limits c.make_node-2.new.limiter) c.make_node-2.ensures.limit c.make_node-2.ensures.counts c.in-Ok-make_node.high c.in-Ok-make_node.ensures.makes
    (g.L.ResourceLimiter.limits c.make_node-3.new.limiter) c.make_node-3.ensures.limit c.make_node-3.result c.make_node-3.ensures.makes
