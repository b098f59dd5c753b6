use Rattle.std.proofs.Common.{◌+◌, true, false, ◌∙◌, arith}
use Rattle.gc_rooted.proofs.laws.count_increments.Goals as goal

pub returns-in-Complete-clause-closes : goal.returns-in-Complete-clause-closes
returns-in-Complete-clause-closes g c = λ old is. (c.in-Complete.ensures.goes old 0 true is).0

pub returns-in-Complete-clause-counted : goal.returns-in-Complete-clause-counted
returns-in-Complete-clause-counted g c = λ old is. (1, ((c.in-Complete.ensures.goes old 0 true is).1, omega arith))

pub increments-init : goal.increments-init
increments-init g c = record {
  same_reference = c.collect_increment.ensures.same_reference;
  begun = c.collect_increment.ensures.begun;
  goes = λ old is. (1, ((c.in-Continue.ensures.goes old 0 true is).0, omega arith));
}

pub increments-preserved : goal.increments-preserved
increments-preserved g c = record {
  same_reference = c.collect_increment-progress.ensures.same_reference ∙ c.increments.invariant.same_reference;
  begun = c.collect_increment-progress.ensures.begun;
  goes = λ old is.
      let on = c.increments.invariant.goes old is in
      (on.0 + 1, ((c.in-Continue-progress.ensures.goes old on.0 false on.1.0).0, omega arith));
}

pub returns-in-Complete-progress-clause-closes : goal.returns-in-Complete-progress-clause-closes
returns-in-Complete-progress-clause-closes g c = λ old is. let on = c.increments.invariant.goes old is in (c.in-Complete-progress.ensures.goes old on.0 false on.1.0).0

pub returns-in-Complete-progress-clause-counted : goal.returns-in-Complete-progress-clause-counted
returns-in-Complete-progress-clause-counted g c = λ old is.
    let on = c.increments.invariant.goes old is in
    (on.0 + 1, ((c.in-Complete-progress.ensures.goes old on.0 false on.1.0).1, omega arith))
