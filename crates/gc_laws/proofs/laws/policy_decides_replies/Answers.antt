use Rattle.gc_laws.proofs.PolicyLaws.{policy_decides}
use Rattle.gc_laws.proofs.laws.policy_decides_replies.Goals as goal

pub returns : goal.returns
returns c = policy_decides
