use Rattle.gc_free.proofs.LawsOfCurrent.{current_run_is_free}
use Rattle.gc_free.proofs.laws.current_run_is_free.Goals as goal

pub returns : goal.returns
returns c = current_run_is_free
