use Rattle.std.proofs.Common.{◌+◌, ℕ, ℤ, ap, ◌∙◌, sym, subst, arith, w64}
use Rattle.std.specs.Ordering.{int_cmp}
use Rattle.std.proofs.lemmas.Int.{to_z-of_z}
use Rattle.gc_maps.proofs.Lookups.{Looks, looks_start, looks_none, looks_count, looks_counted, looks_all, looks_last, looks_past, looks_node, looks_here, looks_next, with_key, as_passed}
use Rattle.gc_maps.proofs.finding.look_up.Goals as goal

pub word_of-here-requires : goal.word_of-here-requires
word_of-here-requires g c =
    let q = c.requires in
    record { table = q.table; holds = q.holds; ty = q.ty; tree = q.tree; is = q.is }

pub loop-turn-init : goal.loop-turn-init
loop-turn-init g c = record {
  looks = λ t place ty tree holds is search.
      as_passed t place ty tree c.args.key c.ranges.key 0 c.args.steps.now c.args.steps.now c.word_of-here.result
      (looks_start g.H.GcHeap.KIND c.args.store.now t place holds ty tree c.args.key c.args.steps.now c.word_of-here.result (c.word_of-here.ensures t place ty tree holds is) search);
}

pub returns-then-here-eq0-clause-finds : goal.returns-then-here-eq0-clause-finds
returns-then-here-eq0-clause-finds g c t ty tree held is search =
    looks_none g.H.GcHeap.KIND c.args.store.now t held.0 held.1 ty tree c.args.key c.args.steps.now c.loop-turn._turn c.loop-turn.steps c.loop-turn.here c.if-here-eq0.true
    (with_key t held.0 ty tree c.args.key c.ranges.key c.loop-turn._turn c.args.steps.now c.loop-turn.steps c.loop-turn.here (c.loop-turn.invariant.looks t held.0 ty tree held.1 is search))

pub returns-then-here-eq0-clause-counted : goal.returns-then-here-eq0-clause-counted
returns-then-here-eq0-clause-counted g c t ty tree held is search =
    looks_count g.H.GcHeap.KIND c.args.store.now t held.0 held.1 ty tree c.args.key c.args.steps.now c.loop-turn._turn c.loop-turn.steps c.loop-turn.here (with_key t held.0 ty tree c.args.key c.ranges.key c.loop-turn._turn c.args.steps.now c.loop-turn.steps c.loop-turn.here (c.loop-turn.invariant.looks t held.0 ty tree held.1 is search))

pub returns-then-here-eq0-clause-exact : goal.returns-then-here-eq0-clause-exact
returns-then-here-eq0-clause-exact g c t ty tree held is search =
    looks_all g.H.GcHeap.KIND c.args.store.now t held.0 held.1 ty tree c.args.key c.args.steps.now c.loop-turn._turn c.loop-turn.steps c.loop-turn.here c.if-here-eq0.true
    (with_key t held.0 ty tree c.args.key c.ranges.key c.loop-turn._turn c.args.steps.now c.loop-turn.steps c.loop-turn.here (c.loop-turn.invariant.looks t held.0 ty tree held.1 is search))

pub find_node-node-requires : goal.find_node-node-requires
find_node-node-requires g c =
    let q = c.requires in
    looks_node g.H.GcHeap.KIND c.args.store.now q.table q.holds.0 q.holds.1 q.ty q.tree c.args.key c.args.steps.now c.loop-turn._turn c.loop-turn.steps c.loop-turn.here c.if-here-eq0.false
    (with_key q.table q.holds.0 q.ty q.tree c.args.key c.ranges.key c.loop-turn._turn c.args.steps.now c.loop-turn.steps c.loop-turn.here (c.loop-turn.invariant.looks q.table q.holds.0 q.ty q.tree q.holds.1 q.is q.search))

pub returns-then-is_eq-clause-finds : goal.returns-then-is_eq-clause-finds
returns-then-is_eq-clause-finds g c t ty tree held is search =
    looks_here g.H.GcHeap.KIND c.args.store.now t held.0 held.1 ty tree c.args.key c.args.steps.now c.loop-turn._turn c.loop-turn.steps c.loop-turn.here c.if-here-eq0.false
    c.find_node-node.result c.find_node-node.ensures c.cmp-order.result (c.cmp-order.ensures ∙ ap (λ (z : ℤ). int_cmp z c.find_node-node.result.key) (to_z-of_z w64 c.args.key c.ranges.key))
    (sym c.is_eq.ensures ∙ c.if-is_eq.true) (with_key t held.0 ty tree c.args.key c.ranges.key c.loop-turn._turn c.args.steps.now c.loop-turn.steps c.loop-turn.here (c.loop-turn.invariant.looks t held.0 ty tree held.1 is search))

pub returns-then-is_eq-clause-counted : goal.returns-then-is_eq-clause-counted
returns-then-is_eq-clause-counted g c t ty tree held is search =
    let counted = looks_counted g.H.GcHeap.KIND c.args.store.now t held.0 held.1 ty tree c.args.key c.args.steps.now c.loop-turn._turn c.loop-turn.steps c.loop-turn.here c.if-here-eq0.false
    (with_key t held.0 ty tree c.args.key c.ranges.key c.loop-turn._turn c.args.steps.now c.loop-turn.steps c.loop-turn.here (c.loop-turn.invariant.looks t held.0 ty tree held.1 is search)) in
    let ticked = c.tick.ensures in
    omega (arith, counted, ticked)

pub returns-then-is_eq-clause-exact : goal.returns-then-is_eq-clause-exact
returns-then-is_eq-clause-exact g c t ty tree held is search =
    let last = looks_last g.H.GcHeap.KIND c.args.store.now t held.0 held.1 ty tree c.args.key c.args.steps.now c.loop-turn._turn c.loop-turn.steps c.loop-turn.here c.if-here-eq0.false
    c.find_node-node.result c.find_node-node.ensures c.cmp-order.result (c.cmp-order.ensures ∙ ap (λ (z : ℤ). int_cmp z c.find_node-node.result.key) (to_z-of_z w64 c.args.key c.ranges.key))
    (sym c.is_eq.ensures ∙ c.if-is_eq.true) (with_key t held.0 ty tree c.args.key c.ranges.key c.loop-turn._turn c.args.steps.now c.loop-turn.steps c.loop-turn.here (c.loop-turn.invariant.looks t held.0 ty tree held.1 is search)) in
    c.tick.ensures ∙ last

pub loop-turn-preserved : goal.loop-turn-preserved
loop-turn-preserved g c = record {
  looks = λ t place ty tree holds is search.
      let next = looks_next g.H.GcHeap.KIND c.args.store.now t place holds ty tree c.args.key c.args.steps.now c.loop-turn._turn c.loop-turn.steps c.loop-turn.here c.if-here-eq0.false
      c.find_node-node.result c.find_node-node.ensures c.cmp-order.result (c.cmp-order.ensures ∙ ap (λ (z : ℤ). int_cmp z c.find_node-node.result.key) (to_z-of_z w64 c.args.key c.ranges.key))
      (sym c.is_eq.ensures ∙ c.if-is_eq.false) (with_key t place ty tree c.args.key c.ranges.key c.loop-turn._turn c.args.steps.now c.loop-turn.steps c.loop-turn.here (c.loop-turn.invariant.looks t place ty tree holds is search)) in
      as_passed t place ty tree c.args.key c.ranges.key (c.loop-turn._turn + 1) c.args.steps.now c.tick.new.self c.toward-here.result
      (subst (λ (n : ℕ). Looks t place ty tree c.args.key (c.loop-turn._turn + 1) c.args.steps.now n c.toward-here.result) (sym c.tick.ensures)
      (subst (λ (n : ℕ). Looks t place ty tree c.args.key (c.loop-turn._turn + 1) c.args.steps.now (c.loop-turn.steps + 1) n) (sym c.toward-here.ensures) next));
}

pub returns-clause-finds : goal.returns-clause-finds
returns-clause-finds g c t ty tree held is search =
    absurd (looks_past g.H.GcHeap.KIND c.args.store.now t held.0 held.1 ty tree c.args.key c.args.steps.now c.loop-turn._turn c.loop-turn.steps c.loop-turn.here c.args.root is search (omega arith)
    (with_key t held.0 ty tree c.args.key c.ranges.key c.loop-turn._turn c.args.steps.now c.loop-turn.steps c.loop-turn.here (c.loop-turn.invariant.looks t held.0 ty tree held.1 is search)))

pub returns-clause-counted : goal.returns-clause-counted
returns-clause-counted g c t ty tree held is search =
    looks_count g.H.GcHeap.KIND c.args.store.now t held.0 held.1 ty tree c.args.key c.args.steps.now c.loop-turn._turn c.loop-turn.steps c.loop-turn.here (with_key t held.0 ty tree c.args.key c.ranges.key c.loop-turn._turn c.args.steps.now c.loop-turn.steps c.loop-turn.here (c.loop-turn.invariant.looks t held.0 ty tree held.1 is search))

pub returns-clause-exact : goal.returns-clause-exact
returns-clause-exact g c t ty tree held is search =
    absurd (looks_past g.H.GcHeap.KIND c.args.store.now t held.0 held.1 ty tree c.args.key c.args.steps.now c.loop-turn._turn c.loop-turn.steps c.loop-turn.here c.args.root is search (omega arith)
    (with_key t held.0 ty tree c.args.key c.ranges.key c.loop-turn._turn c.args.steps.now c.loop-turn.steps c.loop-turn.here (c.loop-turn.invariant.looks t held.0 ty tree held.1 is search)))
