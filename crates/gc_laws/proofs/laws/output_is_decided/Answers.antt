use Rattle.gc_laws.proofs.SessionLaws.{output_decided, granted_output}
use Rattle.gc_laws.proofs.laws.output_is_decided.Goals as goal

pub returns-clause-told_nowhere : goal.returns-clause-told_nowhere
returns-clause-told_nowhere g = output_decided

pub returns-clause-granted : goal.returns-clause-granted
returns-clause-granted g = granted_output
