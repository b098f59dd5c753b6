use Rattle.gc_laws.proofs.StaleLaws.{stale_stays, object_refused, value_refused}
use Rattle.gc_laws.proofs.root_laws.stale_handles_are_refused.Goals as goal

pub returns-clause-stays : goal.returns-clause-stays
returns-clause-stays g = stale_stays

pub returns-clause-object : goal.returns-clause-object
returns-clause-object g = object_refused

pub returns-clause-value : goal.returns-clause-value
returns-clause-value g = value_refused
