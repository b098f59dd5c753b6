use Rattle.std.proofs.Common.{ℕ, ◌≡◌, ◌+◌, refl, subst, ◌∙◌, arith}
use Rattle.gc_heap.specs.Collection.{objects_per_increment}
use Rattle.gc_copying.specs.CopySteps.{WorksOn}
use Rattle.gc_copying.proofs.WorkLemmas.{works_start, works_step, can_go_on, frontier_less}
use Rattle.gc_copying.proofs.space.Space.scan_some.Goals as goal

pub loop-done-init : goal.loop-done-init
loop-done-init g c = record {
  along = λ s n fields types work. works_start s c.args.self.now c.args.first n fields c.args.steps.now work;
  behind = omega arith;
  sides = record { upper = refl; externals = refl };
  rises = omega arith;
}

pub returns-then-scan-self-clause-empty : goal.returns-then-scan-self-clause-empty
returns-then-scan-self-clause-empty g c = (
  c.loop-done._done,
  (
    c.loop-done-test.true,
    λ s n fields types work.
        subst (λ (x : ℕ). WorksOn s c.args.self.now c.loop-done.self x c.loop-done._done n fields c.args.steps.now c.loop-done.steps) c.if-scan-self.true
        (c.loop-done.invariant.along s n fields types work),
  ),
)

pub returns-then-scan-self-clause-sides : goal.returns-then-scan-self-clause-sides
returns-then-scan-self-clause-sides g c = c.loop-done.invariant.sides

pub returns-then-scan-self-clause-rises : goal.returns-then-scan-self-clause-rises
returns-then-scan-self-clause-rises g c = c.loop-done.invariant.rises

pub scan_object-scan-requires-clause-work : goal.scan_object-scan-requires-clause-work
scan_object-scan-requires-clause-work g c =
    can_go_on c.args.types.now.declarations c.args.self.now c.loop-done.self c.args.first c.loop-done.scan c.loop-done._done c.args.steps.now c.loop-done.steps
    c.loop-done.invariant.along c.requires

pub scan_object-scan-requires-clause-less : goal.scan_object-scan-requires-clause-less
scan_object-scan-requires-clause-less g c =
    let can = can_go_on c.args.types.now.declarations c.args.self.now c.loop-done.self c.args.first c.loop-done.scan c.loop-done._done c.args.steps.now c.loop-done.steps
    c.loop-done.invariant.along c.requires in
    frontier_less c.args.types.now.declarations c.loop-done.self c.loop-done.scan can c.if-scan-self.false

pub loop-done-preserved : goal.loop-done-preserved
loop-done-preserved g c = record {
  along = λ s n fields types work.
      let on = c.loop-done.invariant.along s n fields types work in
      works_step s c.args.self.now c.loop-done.self c.scan_object-scan.new.self c.loop-done.scan c.scan_object-scan.result c.loop-done._done n fields c.args.steps.now c.loop-done.steps
      c.scan_object-scan.new.steps _ on (c.scan_object-scan.ensures.scanned s (n + c.loop-done._done) (fields + on.references) types on.works.work) c.scan_object-scan.ensures.ticks;
  behind = omega (arith, c.loop-done.invariant.behind, c.scan_object-scan.ensures.behind);
  sides = record {
    upper = c.scan_object-scan.ensures.sides.upper ∙ c.loop-done.invariant.sides.upper;
    externals = c.scan_object-scan.ensures.sides.externals ∙ c.loop-done.invariant.sides.externals;
  };
  rises = omega (arith, c.loop-done.invariant.rises, c.scan_object-scan.ensures.rises);
}

pub returns-clause-more : goal.returns-clause-more
returns-clause-more g c s n fields types work =
    let all : c.loop-done._done ≡ objects_per_increment = omega (arith, c.loop-done-test.false, c.loop-done.auto) in
    subst (λ (x : ℕ). WorksOn s c.args.self.now c.loop-done.self c.loop-done.scan x n fields c.args.steps.now c.loop-done.steps) all
    (c.loop-done.invariant.along s n fields types work)

pub returns-clause-behind : goal.returns-clause-behind
returns-clause-behind g c = omega (arith, c.loop-done.invariant.behind, c.loop-done-test.false)

pub returns-clause-sides : goal.returns-clause-sides
returns-clause-sides g c = c.loop-done.invariant.sides

pub returns-clause-rises : goal.returns-clause-rises
returns-clause-rises g c = c.loop-done.invariant.rises
