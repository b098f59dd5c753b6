use Rattle.std.proofs.Common.{◌≡◌, ◌+◌, true, refl, ap, ◌∙◌, arith}
use Rattle.gc_owner.specs.Counting.{ticks_of}
use Rattle.gc_owner.proofs.CountingLemmas.{counts_after}
use Rattle.gc_owner.proofs.owner.HeapOwner.finish_counted.Goals as goal

pub increments-preserved : goal.increments-preserved
increments-preserved g c = record {
  goes = λ s n d begun way.
      let on = c.increments.invariant.goes s n d begun way in
      (on.0 + 1, (c.in-Continue.ensures.goes s on.0 d begun on.1).1);
  same = λ idle.
      let still : c.increments.self.seen.idle ≡ true = ap (λ v. v.seen.idle) (c.increments.invariant.same idle).0 ∙ idle in
      let none = c.in-Continue.ensures.none still in
      absurd (cc (none.0));
  ticks =
      let so_far = c.increments.invariant.ticks in
      let more = c.in-Continue.ensures.ticks refl in
      omega (arith, so_far, more);
  rises =
      let so_far = c.increments.invariant.rises in
      let more = c.in-Continue.ensures.rises in
      omega (arith, so_far, more);
}

pub returns-in-Complete-clause-ended : goal.returns-in-Complete-clause-ended
returns-in-Complete-clause-ended g c = λ s n d begun way.
    let on = c.increments.invariant.goes s n d begun way in
    (c.in-Complete.ensures.goes s on.0 d begun on.1).1

pub returns-in-Complete-clause-counted : goal.returns-in-Complete-clause-counted
returns-in-Complete-clause-counted g c = λ s n begun way.
    let on = c.increments.invariant.goes s n true begun way in
    counts_after g.H.GcHeap.KIND s (ticks_of g.H.GcHeap.ticks c.args.self.now.state) (ticks_of g.H.GcHeap.ticks c.increments.self.state) c.args.steps.now c.increments.steps c.increment_counted.new.steps c.increments.invariant.ticks
    (c.in-Complete.ensures.counted s on.0 begun on.1 refl)
