use Rattle.gc_laws.proofs.HeldLaws.{held_reached}
use Rattle.gc_laws.proofs.StepKept.{garbage_gone}
use Rattle.gc_laws.proofs.root_laws.garbage_really_goes.Goals as goal

pub returns-clause-held : goal.returns-clause-held
returns-clause-held g = held_reached

pub returns-clause-gone : goal.returns-clause-gone
returns-clause-gone g = garbage_gone
