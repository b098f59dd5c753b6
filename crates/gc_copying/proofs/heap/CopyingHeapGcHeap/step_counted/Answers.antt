use Rattle.std.proofs.Common.{◌≡◌, ◌+◌, ◌-◌, ℕ, true, sym, subst, arith}
use Rattle.gc_types.specs.declared.kind.Layouts.TheVariants.{Copying}
use Rattle.gc_heap.specs.Collection.{IsStepCount}
use Rattle.gc_copying.proofs.BetweenLemmas.{stepped_as}
use Rattle.gc_copying.proofs.heap.CopyingHeapGcHeap.step_counted.Goals as goal

pub collect_more-progress-requires : goal.collect_more-progress-requires
collect_more-progress-requires g c =
    let r = c.requires in
    (r.0, (r.1.0, (r.1.1.1.counted, r.1.1.1.between)))

pub returns-clause-step : goal.returns-clause-step
returns-clause-step g c s n k u =
    let more : ℕ = c.collect_more-progress.new.steps - c.args.steps.now in
    let counts : c.collect_more-progress.new.steps ≡ c.args.steps.now + more = omega (arith, c.collect_more-progress.ensures.rises) in
    let told : k ≡ true → c.after-state.result.count ≡ u.counted + more = λ e. omega (arith, u.ticks_are e, c.of-before.ensures, c.of-now.ensures, c.after-state.ensures) in
    stepped_as s (n + 1) c.collect_more-progress.result (c.collect_more-progress.ensures.copies s n u.counted more u.between counts)
    (λ b. record { counted = u.counted + more; between = b; ticks_are = told })
    (λ t. (t.0, (λ e. subst (λ (x : ℕ). IsStepCount Copying s x) (sym (told e)) t.1), t.2))
