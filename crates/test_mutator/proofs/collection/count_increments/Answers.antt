use Rattle.test_mutator.proofs.collection.count_increments.Goals as goal

pub step-progress-requires : goal.step-progress-requires
step-progress-requires g c =
    let on = c.increments.invariant.goes c.requires.0 c.requires.1.0 c.requires.1.1 in
    (c.requires.0, (on.0, (on.1.0, on.1.1.0)))
