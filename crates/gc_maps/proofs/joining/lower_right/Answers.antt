use Rattle.std.proofs.Common.{refl}
use Rattle.gc_model.proofs.AccountLemmas.{some_account}
use Rattle.gc_maps.specs.Lowering.{IsJoined}
use Rattle.gc_maps.proofs.LoweringRight.{high_in, high_refused, over_in, over_joined, turn_in, turn_joined}
use Rattle.gc_maps.proofs.joining.lower_right.Goals as goal

pub open_node-requires : goal.open_node-requires
open_node-requires g c =
    let q = c.requires in
    let some = some_account g.H.GcHeap.KIND c.args.store.now q.table q.holds in
    high_in g.H.GcHeap.KIND c.args.kit.now c.args.store.now c.args.store.now c.args.store.now (record { engine = refl; number = refl; counter = refl }) c.args.root c.args.opened q.table some.0 some.1 q.x q.key q.value q.y q.is

pub returns-in-Err-clause-joins : goal.returns-in-Err-clause-joins
returns-in-Err-clause-joins g c t a x y k v holds high =
    high_refused g.H.GcHeap.KIND c.args.kit.now c.args.store.now c.open_node.new.store c.open_node.new.store c.open_node.ensures.same c.args.root c.args.opened t a holds x k v (g.L.ResourceLimiter.limits c.args.limiter.now) (g.L.ResourceLimiter.limits c.args.limiter.now) c.in-Err.fault c.in-Err.ensures.opens (λ s u part. IsJoined s u c.args.kit.now.node part x (k, v) y) y high

pub make_over_left-requires : goal.make_over_left-requires
make_over_left-requires g c =
    let q = c.requires in
    let some = some_account g.H.GcHeap.KIND c.args.store.now q.table q.holds in
    over_in g.H.GcHeap.KIND c.args.kit.now c.args.store.now c.open_node.new.store c.open_node.new.store c.open_node.ensures.same c.args.root c.args.opened q.table some.0 some.1 q.x q.key q.value c.in-Ok.high c.in-Ok.ensures.opens c.is_no_higher.result c.is_no_higher.ensures q.of_nodes q.y q.is

pub returns-then-is_no_higher-clause-joins : goal.returns-then-is_no_higher-clause-joins
returns-then-is_no_higher-clause-joins g c t a x y k v holds high =
    over_joined g.H.GcHeap.KIND c.args.kit.now c.args.store.now c.open_node.new.store c.make_over_left.new.store c.open_node.ensures.same c.args.root c.args.opened t a holds x k v c.in-Ok.high c.in-Ok.ensures.opens c.is_no_higher.result c.is_no_higher.ensures c.if-is_no_higher.true (g.L.ResourceLimiter.limits c.args.limiter.now) (g.L.ResourceLimiter.limits c.make_over_left.new.limiter) c.make_over_left.result c.make_over_left.ensures.makes y high

pub turn-requires : goal.turn-requires
turn-requires g c =
    let q = c.requires in
    let some = some_account g.H.GcHeap.KIND c.args.store.now q.table q.holds in
    turn_in g.H.GcHeap.KIND c.args.kit.now c.args.store.now c.open_node.new.store c.open_node.new.store c.open_node.ensures.same c.args.root c.args.opened q.table some.0 some.1 q.x q.key q.value c.in-Ok.high c.in-Ok.ensures.opens c.is_no_higher.result c.is_no_higher.ensures c.if-is_no_higher.false q.of_nodes q.y q.is

pub returns-clause-joins : goal.returns-clause-joins
returns-clause-joins g c t a x y k v holds high =
    turn_joined g.H.GcHeap.KIND c.args.kit.now c.args.store.now c.open_node.new.store c.turn.new.store c.open_node.ensures.same c.args.root c.args.opened t a holds x k v c.in-Ok.high c.in-Ok.ensures.opens c.is_no_higher.result c.is_no_higher.ensures c.if-is_no_higher.false (g.L.ResourceLimiter.limits c.args.limiter.now) (g.L.ResourceLimiter.limits c.turn.new.limiter) c.turn.result c.turn.ensures.turns y high
