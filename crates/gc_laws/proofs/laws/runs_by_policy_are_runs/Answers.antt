use Rattle.gc_laws.proofs.PolicyRuns.{policy_run}
use Rattle.gc_laws.proofs.laws.runs_by_policy_are_runs.Goals as goal

pub returns : goal.returns
returns g = λ layouts counter limits limits' s s' cs rs run. policy_run layouts counter s limits cs rs s' limits' run
