use Rattle.gc_free.proofs.LawsOfCurrent.{used_up_run_stands_apart}
use Rattle.gc_free.proofs.laws.used_up_run_stands_apart.Goals as goal

pub returns : goal.returns
returns c = used_up_run_stands_apart
