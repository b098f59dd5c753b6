use Rattle.gc_laws.proofs.LimitLaws.{lacks_over, allocates_under, growth_over, pages_within}
use Rattle.gc_laws.proofs.limit_laws.told_limits_decide.Goals as goal

pub returns-clause-out_of_memory : goal.returns-clause-out_of_memory
returns-clause-out_of_memory g = lacks_over

pub returns-clause-success : goal.returns-clause-success
returns-clause-success g = allocates_under

pub returns-clause-growth : goal.returns-clause-growth
returns-clause-growth g = growth_over

pub returns-clause-pages : goal.returns-clause-pages
returns-clause-pages g = pages_within
