use Rattle.std.proofs.Common.{◌<◌, ◌≤◌, ◌∙◌, sym}
use Rattle.std.proofs.lemmas.Bool.{ltb-true, ltb-false}
use Rattle.gc_free.specs.Orders.{key_of}
use Rattle.gc_free.proofs.Narrowing.{raised, lowered, found, searched, has_searched}
use Rattle.gc_free.proofs.search.count_before.Goals as goal

pub loop-low-preserved-then-is_before : goal.loop-low-preserved-then-is_before
loop-low-preserved-then-is_before g c =
    let less : c.new.result < c.args.key = ltb-true c.new.result c.args.key (sym c.is_before.ensures.answer ∙ c.if-is_before.true) in
    rw c.is_before.ensures.counted (raised (key_of c.args.order) c.args.key c.args.runs.now c.loop-low.low c.loop-low.high c.args.steps.now c.loop-low.steps c.requires c.loop-low.invariant c.loop-low-test.true
    _ c.new.result c.new.ensures less)

pub loop-low-preserved : goal.loop-low-preserved
loop-low-preserved g c =
    let more : c.args.key ≤ c.new.result = ltb-false c.new.result c.args.key (sym c.is_before.ensures.answer ∙ c.if-is_before.false) in
    rw c.is_before.ensures.counted (lowered (key_of c.args.order) c.args.key c.args.runs.now c.loop-low.low c.loop-low.high c.args.steps.now c.loop-low.steps c.requires c.loop-low.invariant c.loop-low-test.true
    _ c.new.result c.new.ensures more)

pub returns-clause-count : goal.returns-clause-count
returns-clause-count g c =
    found (key_of c.args.order) c.args.key c.args.runs.now c.loop-low.low c.loop-low.high c.args.steps.now c.loop-low.steps c.loop-low.invariant c.loop-low-test.false

pub returns-clause-cost : goal.returns-clause-cost
returns-clause-cost g c =
    searched (key_of c.args.order) c.args.key c.args.runs.now c.loop-low.low c.loop-low.high c.args.steps.now c.loop-low.steps c.loop-low.invariant

pub returns-clause-least : goal.returns-clause-least
returns-clause-least g c =
    has_searched (key_of c.args.order) c.args.key c.args.runs.now c.loop-low.low c.loop-low.high c.args.steps.now c.loop-low.steps c.loop-low.invariant c.loop-low-test.false
