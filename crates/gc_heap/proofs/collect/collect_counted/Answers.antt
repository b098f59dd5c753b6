use Rattle.gc_heap.proofs.collect.collect_counted.Goals as goal

-- src/collect.rt:30:15
pub step_counted-requires : goal.step_counted-requires
step_counted-requires g c =
    let start = c.requires in
    let on = c.increments.invariant.goes start.0 start.1.0 start.1.1.0 start.1.1.1 in
    (start.0, (on.0, (start.1.1.0, on.1)))
