use Rattle.std.specs.Result.{is_ok, is_err}
use Rattle.std.proofs.Common.{false, if◌then◌else◌, Result, Ok, Err, ◌≡◌, ◌+◌, ◌<◌, ◌++◌, ◌∷◌, [], ℕ, ℤ, List, ap, ◌∙◌, sym, subst, refl, arith, w64}
use Rattle.std.specs.Ordering.{int_cmp}
use Rattle.std.proofs.lemmas.Int.{to_z-of_z}
use Rattle.gc_model.proofs.AccountLemmas.{some_account}
use Rattle.gc_store.specs.Reading.{IsFoundHere}
use Rattle.gc_maps.specs.declared.part.Frame.{Frame}
use Rattle.gc_maps.specs.FoundNodes.{link_found}
use Rattle.gc_maps.proofs.NodeReads.{GivesRoot}
use Rattle.gc_maps.specs.Paths.{Descended}
use Rattle.gc_maps.proofs.Descending.{Descends, begun, nothing_there, too_far, node_there, node_refused, found_in, found_there, link_there, step_refused, wanting, gone_on}
use Rattle.gc_maps.proofs.Growing.{pushes_none, same_then}
use Rattle.gc_maps.proofs.ways.descend.Goals as goal

pub word_of-here-requires : goal.word_of-here-requires
word_of-here-requires g c =
    let q = c.requires.search in
    record { table = q.table; holds = q.holds; ty = q.ty; tree = q.tree; is = q.is }

pub loop-turn-init : goal.loop-turn-init
loop-turn-init g c = record {
  descends = λ t a ty tree holds is search.
      subst (λ (z : ℤ). Descends g.H.GcHeap.KIND t ty tree z 0 c.reserve.new.self.items c.args.store.now c.word_of-here.result) (sym (to_z-of_z w64 c.args.key c.ranges.key))
      (begun g.H.GcHeap.KIND t ty tree c.args.key a c.args.store.now c.word_of-here.result c.reserve.new.self.items (c.reserve.ensures.items ∙ c.requires.begins) holds
      (c.word_of-here.ensures t holds.place ty tree holds.holds is) search);
  same = record { engine = refl; number = refl; counter = refl };
}

pub returns-then-is_err-clause-descends : goal.returns-then-is_err-clause-descends
returns-then-is_err-clause-descends g c t a ty tree holds is search = record { after = t; account = a; holds = holds; changed = pushes_none 184 t }

pub returns-then-here-eq0-clause-descends : goal.returns-then-here-eq0-clause-descends
returns-then-here-eq0-clause-descends g c t a ty tree holds is search =
    let below : c.loop-turn._turn < 92 = omega arith in
    nothing_there g.H.GcHeap.KIND t ty tree c.args.key c.loop-turn._turn c.loop-turn.path.items c.loop-turn.store c.loop-turn.here c.if-here-eq0.true below
    (subst (λ (z : ℤ). Descends g.H.GcHeap.KIND t ty tree z c.loop-turn._turn c.loop-turn.path.items c.loop-turn.store c.loop-turn.here) (to_z-of_z w64 c.args.key c.ranges.key) (c.loop-turn.invariant.descends t a ty tree holds is search))

pub find_node-node-requires : goal.find_node-node-requires
find_node-node-requires g c =
    let q = c.requires.search in
    let some = some_account g.H.GcHeap.KIND c.args.store.now q.table q.holds in
    node_there g.H.GcHeap.KIND q.table q.ty q.tree c.args.key c.loop-turn._turn c.loop-turn.path.items c.loop-turn.store c.loop-turn.here c.if-here-eq0.false
    (subst (λ (z : ℤ). Descends g.H.GcHeap.KIND q.table q.ty q.tree z c.loop-turn._turn c.loop-turn.path.items c.loop-turn.store c.loop-turn.here) (to_z-of_z w64 c.args.key c.ranges.key) (c.loop-turn.invariant.descends q.table some.0 q.ty q.tree some.1 q.is q.search))

pub give_node-requires : goal.give_node-requires
give_node-requires g c =
    let q = c.requires.search in
    let some = some_account g.H.GcHeap.KIND c.args.store.now q.table q.holds in
    found_in g.H.GcHeap.KIND q.table q.ty q.tree c.args.key c.loop-turn._turn c.loop-turn.path.items c.loop-turn.store c.loop-turn.here c.if-here-eq0.false c.find_node-node.result c.find_node-node.ensures c.cmp-order.result (c.cmp-order.ensures ∙ ap (λ (z : ℤ). int_cmp z c.find_node-node.result.key) (to_z-of_z w64 c.args.key c.ranges.key))
    (subst (λ (z : ℤ). Descends g.H.GcHeap.KIND q.table q.ty q.tree z c.loop-turn._turn c.loop-turn.path.items c.loop-turn.store c.loop-turn.here) (to_z-of_z w64 c.args.key c.ranges.key) (c.loop-turn.invariant.descends q.table some.0 q.ty q.tree some.1 q.is q.search))

pub returns-in-Ok-clause-descends : goal.returns-in-Ok-clause-descends
returns-in-Ok-clause-descends g c t a ty tree holds is search =
    let below : c.loop-turn._turn < 92 = omega arith in
    found_there g.H.GcHeap.KIND t ty tree c.args.key c.loop-turn._turn c.loop-turn.path.items c.loop-turn.store c.loop-turn.here c.if-here-eq0.false c.find_node-node.result c.find_node-node.ensures c.cmp-order.result (c.cmp-order.ensures ∙ ap (λ (z : ℤ). int_cmp z c.find_node-node.result.key) (to_z-of_z w64 c.args.key c.ranges.key)) c.give_node.new.store c.in-Ok.given c.in-Ok.ensures.reads c.give_node.ensures.same
    (sym c.is_eq.ensures ∙ c.if-is_eq.true) below
    (subst (λ (z : ℤ). Descends g.H.GcHeap.KIND t ty tree z c.loop-turn._turn c.loop-turn.path.items c.loop-turn.store c.loop-turn.here) (to_z-of_z w64 c.args.key c.ranges.key) (c.loop-turn.invariant.descends t a ty tree holds is search))

pub returns-in-Err-clause-descends : goal.returns-in-Err-clause-descends
returns-in-Err-clause-descends g c t a ty tree holds is search =
    let below : c.loop-turn._turn < 92 = omega arith in
    node_refused g.H.GcHeap.KIND t ty tree c.args.key c.loop-turn._turn c.loop-turn.path.items c.loop-turn.store c.loop-turn.here c.if-here-eq0.false c.find_node-node.result c.find_node-node.ensures c.cmp-order.result (c.cmp-order.ensures ∙ ap (λ (z : ℤ). int_cmp z c.find_node-node.result.key) (to_z-of_z w64 c.args.key c.ranges.key)) c.give_node.new.store below
    (subst (λ (z : ℤ). Descends g.H.GcHeap.KIND t ty tree z c.loop-turn._turn c.loop-turn.path.items c.loop-turn.store c.loop-turn.here) (to_z-of_z w64 c.args.key c.ranges.key) (c.loop-turn.invariant.descends t a ty tree holds is search))
    c.in-Err.fault c.in-Err.ensures.reads (λ s u found. Descended s u ty tree c.args.key c.loop-turn.path.items found)

pub give_link-requires : goal.give_link-requires
give_link-requires g c =
    let q = c.requires.search in
    let some = some_account g.H.GcHeap.KIND c.args.store.now q.table q.holds in
    subst (λ (word : ℕ). IsFoundHere g.row.D.Denot g.H.GcHeap.KIND c.loop-turn.store (link_found word)) (sym c.away.ensures)
    (link_there g.H.GcHeap.KIND q.table q.ty q.tree c.args.key c.loop-turn._turn c.loop-turn.path.items c.loop-turn.store c.loop-turn.here c.if-here-eq0.false c.find_node-node.result c.find_node-node.ensures c.cmp-order.result (c.cmp-order.ensures ∙ ap (λ (z : ℤ). int_cmp z c.find_node-node.result.key) (to_z-of_z w64 c.args.key c.ranges.key)) (sym c.is_eq.ensures ∙ c.if-is_eq.false)
    (subst (λ (z : ℤ). Descends g.H.GcHeap.KIND q.table q.ty q.tree z c.loop-turn._turn c.loop-turn.path.items c.loop-turn.store c.loop-turn.here) (to_z-of_z w64 c.args.key c.ranges.key) (c.loop-turn.invariant.descends q.table some.0 q.ty q.tree some.1 q.is q.search)))

pub returns-in-Err-give_link-clause-descends : goal.returns-in-Err-give_link-clause-descends
returns-in-Err-give_link-clause-descends g c t a ty tree holds is search =
    let below : c.loop-turn._turn < 92 = omega arith in
    step_refused g.H.GcHeap.KIND t ty tree c.args.key c.loop-turn._turn c.loop-turn.path.items c.loop-turn.store c.loop-turn.here c.if-here-eq0.false c.find_node-node.result c.find_node-node.ensures c.cmp-order.result (c.cmp-order.ensures ∙ ap (λ (z : ℤ). int_cmp z c.find_node-node.result.key) (to_z-of_z w64 c.args.key c.ranges.key)) (sym c.is_eq.ensures ∙ c.if-is_eq.false) c.give_link.new.store c.give_link.ensures.same below
    (subst (λ (z : ℤ). Descends g.H.GcHeap.KIND t ty tree z c.loop-turn._turn c.loop-turn.path.items c.loop-turn.store c.loop-turn.here) (to_z-of_z w64 c.args.key c.ranges.key) (c.loop-turn.invariant.descends t a ty tree holds is search))
    c.in-Err-give_link.fault
    (subst (λ (word : ℕ). GivesRoot g.H.GcHeap.KIND c.loop-turn.store c.give_link.new.store c.give_link.ensures.same (link_found word) (Err c.in-Err-give_link.fault)) c.away.ensures c.in-Err-give_link.ensures.reads)
    (λ s u found. Descended s u ty tree c.args.key c.loop-turn.path.items found)

pub returns-then-is_err-2-clause-descends : goal.returns-then-is_err-2-clause-descends
returns-then-is_err-2-clause-descends g c t a ty tree holds is search =
    let below : c.loop-turn._turn < 92 = omega arith in
    wanting g.H.GcHeap.KIND t ty tree c.args.key c.loop-turn._turn c.loop-turn.path.items c.loop-turn.store c.loop-turn.here c.if-here-eq0.false c.find_node-node.result c.find_node-node.ensures c.cmp-order.result (c.cmp-order.ensures ∙ ap (λ (z : ℤ). int_cmp z c.find_node-node.result.key) (to_z-of_z w64 c.args.key c.ranges.key)) (sym c.is_eq.ensures ∙ c.if-is_eq.false) c.give_link.new.store c.give_link.ensures.same c.in-Ok-give_link.other
    (subst (λ (word : ℕ). GivesRoot g.H.GcHeap.KIND c.loop-turn.store c.give_link.new.store c.give_link.ensures.same (link_found word) (Ok c.in-Ok-give_link.other)) c.away.ensures c.in-Ok-give_link.ensures.reads)
    below
    (subst (λ (z : ℤ). Descends g.H.GcHeap.KIND t ty tree z c.loop-turn._turn c.loop-turn.path.items c.loop-turn.store c.loop-turn.here) (to_z-of_z w64 c.args.key c.ranges.key) (c.loop-turn.invariant.descends t a ty tree holds is search))

-- a push that didn't fail
pushed : {A E X : Type 0} (r : Result A E) (x y new : X) → is_err r ≡ false → new ≡ (if is_ok r then x else y) → x ≡ new
pushed (Ok a) x y new e is = sym is
pushed (Err f) x y new e is = absurd (cc)

pub loop-turn-preserved : goal.loop-turn-preserved
loop-turn-preserved g c = record {
  descends = λ t a ty tree holds is search.
      let next = gone_on g.H.GcHeap.KIND t ty tree c.args.key c.loop-turn._turn c.loop-turn.path.items c.loop-turn.store c.loop-turn.here c.if-here-eq0.false c.find_node-node.result c.find_node-node.ensures c.cmp-order.result (c.cmp-order.ensures ∙ ap (λ (z : ℤ). int_cmp z c.find_node-node.result.key) (to_z-of_z w64 c.args.key c.ranges.key)) (sym c.is_eq.ensures ∙ c.if-is_eq.false) c.give_link.new.store c.give_link.ensures.same c.in-Ok-give_link.other
      (subst (λ (word : ℕ). GivesRoot g.H.GcHeap.KIND c.loop-turn.store c.give_link.new.store c.give_link.ensures.same (link_found word) (Ok c.in-Ok-give_link.other)) c.away.ensures c.in-Ok-give_link.ensures.reads)
      c.frame_of-frame.result c.frame_of-frame.ensures.goes_left c.frame_of-frame.ensures.key c.frame_of-frame.ensures.value c.frame_of-frame.ensures.other
      (subst (λ (z : ℤ). Descends g.H.GcHeap.KIND t ty tree z c.loop-turn._turn c.loop-turn.path.items c.loop-turn.store c.loop-turn.here) (to_z-of_z w64 c.args.key c.ranges.key) (c.loop-turn.invariant.descends t a ty tree holds is search)) in
      subst (λ (z : ℤ). Descends g.H.GcHeap.KIND t ty tree z (c.loop-turn._turn + 1) c.push.new.self.items c.give_link.new.store c.toward-here.result) (sym (to_z-of_z w64 c.args.key c.ranges.key))
      (subst (λ (fs : List Frame). Descends g.H.GcHeap.KIND t ty tree c.args.key (c.loop-turn._turn + 1) fs c.give_link.new.store c.toward-here.result)
      (pushed c.push.result (c.loop-turn.path.items ++ c.frame_of-frame.result ∷ []) c.loop-turn.path.items c.push.new.self.items (sym c.is_err-in-loop-turn.ensures.value ∙ c.if-is_err-2.false) c.push.ensures.items)
      (subst (λ (word : ℕ). Descends g.H.GcHeap.KIND t ty tree c.args.key (c.loop-turn._turn + 1) (c.loop-turn.path.items ++ c.frame_of-frame.result ∷ []) c.give_link.new.store word) (sym c.toward-here.ensures) next));
  same = same_then c.args.store.now c.loop-turn.store c.give_link.new.store c.loop-turn.invariant.same c.give_link.ensures.same;
}

pub returns-clause-descends : goal.returns-clause-descends
returns-clause-descends g c t a ty tree holds is search =
    absurd (too_far g.H.GcHeap.KIND t ty tree c.args.key c.loop-turn._turn c.loop-turn.path.items c.loop-turn.store c.loop-turn.here c.args.root c.args.store.now is search (omega arith)
    (subst (λ (z : ℤ). Descends g.H.GcHeap.KIND t ty tree z c.loop-turn._turn c.loop-turn.path.items c.loop-turn.store c.loop-turn.here) (to_z-of_z w64 c.args.key c.ranges.key) (c.loop-turn.invariant.descends t a ty tree holds is search)))
