use Rattle.gc_laws.proofs.RefusalLaws.{out_exact, growth_exact, first_stays}
use Rattle.gc_laws.proofs.limit_laws.refusals_are_exact.Goals as goal

pub returns-clause-out_of_memory : goal.returns-clause-out_of_memory
returns-clause-out_of_memory g = out_exact

pub returns-clause-growth_failed : goal.returns-clause-growth_failed
returns-clause-growth_failed g = growth_exact

pub returns-clause-first : goal.returns-clause-first
returns-clause-first g = first_stays
