use Rattle.std.specs.Result.{is_ok, is_err}
use Rattle.std.proofs.Common.{false, if◌then◌else◌, Result, Ok, Err, ◌≡◌, ◌++◌, ◌∷◌, [], List, ℤ, ap, ◌∙◌, sym, subst, w64}
use Rattle.std.proofs.lemmas.Int.{to_z-of_z}
use Rattle.gc_model.proofs.AccountLemmas.{some_account}
use Rattle.gc_maps.specs.declared.part.Frame.{Frame}
use Rattle.gc_maps.specs.Gaps.{AboveIn, Closes, others}
use Rattle.gc_maps.specs.Trees.{pairs}
use Rattle.gc_maps.proofs.PullingUp.{takes_passed, above_in, least_refused, wanting, part_in, pulled_up}
use Rattle.gc_maps.proofs.NodeReads.{part_reads, same_here}
use Rattle.gc_maps.proofs.removing.pull_up.Goals as goal

pub take_least-requires-clause-above : goal.take_least-requires-clause-above
take_least-requires-clause-above g c =
    let q = c.requires.gap in
    let some = some_account g.H.GcHeap.KIND c.args.store.now q.table q.holds in
    subst (λ (z : ℤ). AboveIn _ g.H.GcHeap.KIND c.args.store.now c.args.right z) (sym (to_z-of_z w64 c.args.key c.ranges.key))
    (above_in g.H.GcHeap.KIND c.args.store.now q.table some.0 some.1 q.ty q.tree c.args.key c.args.path.now.items c.args.node q.search q.low q.descended c.args.right c.requires.right)

pub returns-in-Err-clause-closes : goal.returns-in-Err-clause-closes
returns-in-Err-clause-closes g c t a ty tree holds ordered low d =
    least_refused g.H.GcHeap.KIND c.args.store.now t a holds ty tree c.args.key c.args.path.now.items c.args.node ordered low d c.args.right c.requires.right c.take_least.new.store c.take_least.new.path.items
    c.in-Err.fault (takes_passed g.H.GcHeap.KIND c.args.store.now c.args.right c.take_least.new.path.items c.take_least.new.store c.args.key c.ranges.key (Err c.in-Err.fault) c.in-Err.ensures.takes)
    (λ s u part. Closes s u ty c.args.path.now.items part (others c.args.key (pairs tree)))

pub returns-then-is_err-clause-closes : goal.returns-then-is_err-clause-closes
returns-then-is_err-clause-closes g c t a ty tree holds ordered low d =
    wanting g.H.GcHeap.KIND c.args.store.now t a holds ty tree c.args.key c.args.path.now.items c.args.node ordered low d c.args.right c.requires.right c.take_least.new.store c.take_least.new.path.items
    c.in-Ok.least (takes_passed g.H.GcHeap.KIND c.args.store.now c.args.right c.take_least.new.path.items c.take_least.new.store c.args.key c.ranges.key (Ok c.in-Ok.least) c.in-Ok.ensures.takes) c.take_least.ensures.same

pub returns-then-is_err-2-clause-closes : goal.returns-then-is_err-2-clause-closes
returns-then-is_err-2-clause-closes g c t a ty tree holds ordered low d =
    wanting g.H.GcHeap.KIND c.args.store.now t a holds ty tree c.args.key c.args.path.now.items c.args.node ordered low d c.args.right c.requires.right c.take_least.new.store c.take_least.new.path.items
    c.in-Ok.least (takes_passed g.H.GcHeap.KIND c.args.store.now c.args.right c.take_least.new.path.items c.take_least.new.store c.args.key c.ranges.key (Ok c.in-Ok.least) c.in-Ok.ensures.takes) c.take_least.ensures.same

pub part_of-requires : goal.part_of-requires
part_of-requires g c =
    let q = c.requires.gap in
    let some = some_account g.H.GcHeap.KIND c.args.store.now q.table q.holds in
    part_in g.H.GcHeap.KIND c.args.store.now q.table some.0 some.1 q.ty q.tree c.args.key c.args.path.now.items c.args.node q.search q.low q.descended c.args.right c.requires.right c.take_least.new.store c.take_least.new.path.items
    c.in-Ok.least (takes_passed g.H.GcHeap.KIND c.args.store.now c.args.right c.take_least.new.path.items c.take_least.new.store c.args.key c.ranges.key (Ok c.in-Ok.least) c.in-Ok.ensures.takes) c.take_least.ensures.same

-- a push or an append that didn't fail
added : {A E X : Type 0} (r : Result A E) (x y new : X) → is_err r ≡ false → new ≡ (if is_ok r then x else y) → new ≡ x
added (Ok a) x y new e is = is
added (Err f) x y new e is = absurd (cc)

pub returns-clause-closes : goal.returns-clause-closes
returns-clause-closes g c t a ty tree holds ordered low d =
    pulled_up g.H.GcHeap.KIND c.args.store.now t a holds ty tree c.args.key c.args.path.now.items c.args.node ordered low d c.args.right c.requires.right c.take_least.new.store c.take_least.new.path.items
    c.in-Ok.least (takes_passed g.H.GcHeap.KIND c.args.store.now c.args.right c.take_least.new.path.items c.take_least.new.store c.args.key c.ranges.key (Ok c.in-Ok.least) c.in-Ok.ensures.takes) c.take_least.ensures.same
    c.step_right-step.result c.step_right-step.ensures.goes_right c.step_right-step.ensures.key c.step_right-step.ensures.value c.step_right-step.ensures.other
    c.take_least.new.store (same_here c.take_least.new.store) c.part_of.result (part_reads g.H.GcHeap.KIND c.take_least.new.store c.in-Ok.least.other c.part_of.result c.part_of.ensures) c.append.new.self.items
    (added c.append.result (c.push.new.self.items ++ c.take_least.new.path.items) c.push.new.self.items c.append.new.self.items (sym c.is_err-2.ensures.value ∙ c.if-is_err-2.false) c.append.ensures.items
    ∙ ap (λ (fs : List Frame). fs ++ c.take_least.new.path.items)
    (added c.push.result (c.args.path.now.items ++ c.step_right-step.result ∷ []) c.args.path.now.items c.push.new.self.items (sym c.is_err.ensures.value ∙ c.if-is_err.false) c.push.ensures.items))
