use Rattle.gc_lists.proofs.laws.calls_keep_constants.Goals as goal
use Rattle.gc_lists.proofs.Standing.{roots_keep, objects_keep}

pub returns-clause-roots : goal.returns-clause-roots
returns-clause-roots g c = λ t u owned changes. roots_keep t u owned changes

pub returns-clause-objects : goal.returns-clause-objects
returns-clause-objects g c = λ limit kit most t u owned changes. objects_keep kit most t u owned changes
