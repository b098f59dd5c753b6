use Rattle.std.proofs.Common.{◌+◌}
use Rattle.gc_copying.proofs.BetweenLemmas.{stepped_as, false_not_true}
use Rattle.gc_copying.proofs.heap.CopyingHeapGcHeap.step.Goals as goal

pub collect_alone-requires-clause-copied : goal.collect_alone-requires-clause-copied
collect_alone-requires-clause-copied g c =
    let r = c.requires in
    (r.0, (r.1.0, (r.1.1.1.counted, r.1.1.1.between)))

pub returns-clause-step : goal.returns-clause-step
returns-clause-step g c s n k u =
    let r = c.collect_alone.ensures.copies s n u.counted u.between in
    stepped_as s (n + 1) c.collect_alone.result r.1
    (λ b. record { counted = u.counted + r.0; between = b; ticks_are = λ e. false_not_true e })
    (λ t. (t.0, t.2))
