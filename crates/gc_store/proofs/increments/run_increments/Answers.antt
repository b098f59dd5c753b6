use Rattle.std.proofs.Common.{◌+◌, true, false, refl, arith}
use Rattle.gc_store.proofs.increments.run_increments.Goals as goal

pub increments-init : goal.increments-init
increments-init g c = λ s begun way. (0, (true, (way, refl)))

pub increments-preserved : goal.increments-preserved
increments-preserved g c = λ s begun way.
    let on = c.increments.invariant s begun way in
    let next = c.in-Continue.ensures.goes s on.0 on.1.0 begun on.1.1.0 in
    (on.0 + 1, (false, (next.1, omega arith)))

pub returns-in-Complete-clause-ended : goal.returns-in-Complete-clause-ended
returns-in-Complete-clause-ended g c = λ s begun way.
    let on = c.increments.invariant s begun way in
    (c.in-Complete.ensures.goes s on.0 on.1.0 begun on.1.1.0).1

pub returns-in-Complete-clause-counted : goal.returns-in-Complete-clause-counted
returns-in-Complete-clause-counted g c = λ s begun way.
    let on = c.increments.invariant s begun way in
    let last = c.in-Complete.ensures.goes s on.0 on.1.0 begun on.1.1.0 in
    (on.0 + 1, (last.0, omega arith))
