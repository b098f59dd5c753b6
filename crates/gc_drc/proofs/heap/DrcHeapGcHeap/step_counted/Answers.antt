use Rattle.std.proofs.Common.{◌+◌}
use Rattle.gc_drc.proofs.ObjectsSteps.{stepped_as}
use Rattle.gc_drc.proofs.heap.DrcHeapGcHeap.step_counted.Goals as goal

pub collect_more-requires : goal.collect_more-requires
collect_more-requires g c = let r = c.requires in (r.0, (r.1.0, r.1.1.1))

pub returns-clause-step : goal.returns-clause-step
returns-clause-step g c s n k between = stepped_as s (n + 1) c.collect_more.result (c.collect_more.ensures.stepped s n between) (λ b. b) (λ t. (t.0, (λ _. tt), t.1))
