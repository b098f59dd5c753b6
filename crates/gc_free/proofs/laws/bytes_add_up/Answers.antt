use Rattle.gc_free.proofs.LawsOfRuns.{bytes_add_up}
use Rattle.gc_free.proofs.laws.bytes_add_up.Goals as goal

pub returns : goal.returns
returns c = bytes_add_up
