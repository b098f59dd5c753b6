use Rattle.gc_free.proofs.LawsOfRuns.{free_runs_are_the_rest}
use Rattle.gc_free.proofs.laws.free_runs_are_the_rest.Goals as goal

pub returns : goal.returns
returns c = free_runs_are_the_rest
