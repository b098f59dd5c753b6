use Rattle.std.proofs.Common.{refl}
use Rattle.gc_model.proofs.AccountLemmas.{some_account}
use Rattle.gc_maps.specs.Parts.{PartIs, node_of}
use Rattle.gc_maps.proofs.Growing.{grows_none}
use Rattle.gc_maps.proofs.Turning.{middle_in, turn_refused, can_turn, turned}
use Rattle.gc_maps.proofs.joining.turn.Goals as goal

pub open_node-requires : goal.open_node-requires
open_node-requires g c =
    let q = c.requires in
    let some = some_account g.H.GcHeap.KIND c.args.store.now q.table q.holds in
    middle_in g.H.GcHeap.KIND c.args.kit.now c.args.store.now c.args.store.now c.args.store.now (record { engine = refl; number = refl; counter = refl }) c.args.high c.args.opened c.in-Some.middle c.in-Some.is q.table some.0 some.1 q.x q.j q.u q.b q.i q.w q.c q.k q.v q.y q.turns

pub returns-in-Err-clause-turns : goal.returns-in-Err-clause-turns
returns-in-Err-clause-turns g c t a x b d y j u i w k v holds turns =
    turn_refused g.H.GcHeap.KIND c.args.kit.now c.args.store.now c.open_node.new.store c.open_node.new.store c.open_node.ensures.same c.args.high c.args.opened c.in-Some.middle c.in-Some.is t a holds x j u b i w d k v y turns (g.L.ResourceLimiter.limits c.args.limiter.now) (g.L.ResourceLimiter.limits c.args.limiter.now) c.in-Err.fault c.in-Err.ensures.opens (λ s u' part. PartIs s u' c.args.kit.now.node part (node_of (node_of x j u b) i w (node_of d k v y)))

pub make_three-requires : goal.make_three-requires
make_three-requires g c =
    let q = c.requires in
    let some = some_account g.H.GcHeap.KIND c.args.store.now q.table q.holds in
    can_turn g.H.GcHeap.KIND c.args.kit.now c.args.store.now c.open_node.new.store c.open_node.new.store c.open_node.ensures.same c.args.high c.args.opened c.in-Some.middle c.in-Some.is q.table some.0 some.1 q.x q.j q.u q.b q.i q.w q.c q.k q.v q.y q.turns c.in-Ok.inner c.in-Ok.ensures.opens q.of_nodes

pub returns-clause-turns : goal.returns-clause-turns
returns-clause-turns g c t a x b d y j u i w k v holds turns =
    turned g.H.GcHeap.KIND c.args.kit.now c.args.store.now c.open_node.new.store c.make_three.new.store c.open_node.ensures.same c.args.high c.args.opened c.in-Some.middle c.in-Some.is t a holds x j u b i w d k v y turns c.in-Ok.inner c.in-Ok.ensures.opens (g.L.ResourceLimiter.limits c.args.limiter.now) (g.L.ResourceLimiter.limits c.make_three.new.limiter) c.make_three.result c.make_three.ensures.makes

pub returns-in-None-clause-turns : goal.returns-in-None-clause-turns
returns-in-None-clause-turns g c t a x b d y j u i w k v holds turns = record { after = t; account = a; holds = holds; changed = grows_none c.args.kit.now 3 5 t }
