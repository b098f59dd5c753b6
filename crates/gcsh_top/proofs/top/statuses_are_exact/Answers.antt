use Rattle.gcsh_top.proofs.StatusLaws.{complete_exact, given_exact, usage_exact}
use Rattle.gcsh_top.proofs.top.statuses_are_exact.Goals as goal

pub returns-clause-usage : goal.returns-clause-usage
returns-clause-usage g = usage_exact

pub returns-clause-given : goal.returns-clause-given
returns-clause-given g = given_exact

pub returns-clause-complete : goal.returns-clause-complete
returns-clause-complete g = complete_exact
