use Rattle.std.proofs.Common.{refl, arith}
use Rattle.gc_maps.proofs.Growing.{grows_none}
use Rattle.gc_maps.proofs.Joinings.{low_left, low_right, is_left, is_right, is_level}
use Rattle.gc_maps.proofs.Steps.{opened_made}
use Rattle.gc_maps.proofs.joining.join.Goals as goal

pub is_too_high-requires : goal.is_too_high-requires
is_too_high-requires g c = let q = c.requires in low_right c.args.store.now q.table c.args.kit.now.node c.args.opened q.x q.key q.value q.y q.is

pub is_too_high-requires-2 : goal.is_too_high-requires-2
is_too_high-requires-2 g c = let q = c.requires in low_left c.args.store.now q.table c.args.kit.now.node c.args.opened q.x q.key q.value q.y q.is

pub lower_left-requires : goal.lower_left-requires
lower_left-requires g c =
    let q = c.requires in
    record {
      of_nodes = q.of_nodes;
      table = q.table;
      holds = q.holds;
      x = q.x;
      key = q.key;
      value = q.value;
      y = q.y;
      is = is_left c.args.store.now q.table c.args.kit.now.node c.args.opened q.x q.key q.value q.y q.is c.is_too_high.result c.is_too_high.ensures c.if-is_too_high.true c.in-Some.root c.in-Some.is;
    }

pub lower_right-requires : goal.lower_right-requires
lower_right-requires g c =
    let q = c.requires in
    record {
      of_nodes = q.of_nodes;
      table = q.table;
      holds = q.holds;
      x = q.x;
      key = q.key;
      value = q.value;
      y = q.y;
      is = is_right c.args.store.now q.table c.args.kit.now.node c.args.opened q.x q.key q.value q.y q.is c.is_too_high-2.result c.is_too_high-2.ensures c.if-is_too_high-2.true c.in-Some-root.root c.in-Some-root.is;
    }

pub make_node-requires : goal.make_node-requires
make_node-requires g c =
    let q = c.requires in
    let p = q.is.low_left in
    let r = q.is.low_right in
    record {
      of_nodes = q.of_nodes;
      table = q.table;
      holds = q.holds;
      in_left = record { tree = q.x; is = q.is.is.left; low = omega (arith, p) };
      in_right = record { tree = q.y; is = q.is.is.right; low = omega (arith, r) };
    }

pub returns-in-Some-clause-joins : goal.returns-in-Some-clause-joins
returns-in-Some-clause-joins g c t a x y k v holds is =
    c.lower_left.ensures.joins t a x y k v holds
    (is_left c.args.store.now t c.args.kit.now.node c.args.opened x k v y is c.is_too_high.result c.is_too_high.ensures c.if-is_too_high.true c.in-Some.root c.in-Some.is)

pub returns-in-Some-root-clause-joins : goal.returns-in-Some-root-clause-joins
returns-in-Some-root-clause-joins g c t a x y k v holds is =
    c.lower_right.ensures.joins t a x y k v holds
    (is_right c.args.store.now t c.args.kit.now.node c.args.opened x k v y is c.is_too_high-2.result c.is_too_high-2.ensures c.if-is_too_high-2.true c.in-Some-root.root c.in-Some-root.is)

pub returns-in-None-clause-joins : goal.returns-in-None-clause-joins
returns-in-None-clause-joins g c t a x y k v holds is = record { after = t; account = a; holds = holds; changed = grows_none c.args.kit.now 3 7 t }

pub returns-in-None-root-clause-joins : goal.returns-in-None-root-clause-joins
returns-in-None-root-clause-joins g c t a x y k v holds is = record { after = t; account = a; holds = holds; changed = grows_none c.args.kit.now 3 7 t }

pub returns-clause-joins : goal.returns-clause-joins
returns-clause-joins g c t a x y k v holds is =
    is_level c.args.store.now t c.args.kit.now.node c.args.opened x k v y is g.H.GcHeap.KIND c.args.kit.now a (g.L.ResourceLimiter.limits c.args.limiter.now) (g.L.ResourceLimiter.limits c.make_node.new.limiter) c.make_node.new.store c.make_node.result
    c.is_too_high.result c.is_too_high-2.result refl c.is_too_high.ensures c.is_too_high-2.ensures c.if-is_too_high.false c.if-is_too_high-2.false holds
    (opened_made g.H.GcHeap.KIND c.args.kit.now c.args.store.now (g.L.ResourceLimiter.limits c.args.limiter.now) (g.L.ResourceLimiter.limits c.make_node.new.limiter) c.args.opened c.make_node.new.store c.make_node.result c.make_node.ensures.makes t a x k v y holds is.is)
