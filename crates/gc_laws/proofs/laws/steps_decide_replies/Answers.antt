use Rattle.gc_laws.proofs.RunLaws.{steps_decide}
use Rattle.gc_laws.proofs.laws.steps_decide_replies.Goals as goal

pub returns : goal.returns
returns c = steps_decide
