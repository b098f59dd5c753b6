use Rattle.std.proofs.Common.{◌≡◌, ◌+◌, true, false, ap, ◌∙◌}
use Rattle.gc_owner.proofs.owner.HeapOwner.finish.Goals as goal

pub increments-preserved : goal.increments-preserved
increments-preserved g c = record {
  goes = λ s n d begun way.
      let on = c.increments.invariant.goes s n d begun way in
      let next = c.in-Continue.ensures.goes s on.0 on.1.0 begun on.1.1 in
      (on.0 + 1, (false, next.1));
  same = λ idle.
      let still : c.increments.self.seen.idle ≡ true = ap (λ v. v.seen.idle) (c.increments.invariant.same idle) ∙ idle in
      let none = c.in-Continue.ensures.none still in
      absurd (cc (none.0));
}

pub returns-in-Complete-clause-ended : goal.returns-in-Complete-clause-ended
returns-in-Complete-clause-ended g c = λ s n d begun way.
    let on = c.increments.invariant.goes s n d begun way in
    (c.in-Complete.ensures.goes s on.0 on.1.0 begun on.1.1).1
