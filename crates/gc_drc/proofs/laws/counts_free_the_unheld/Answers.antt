use Rattle.gc_drc.proofs.ObjectsUnheld.{two_leave}
use Rattle.gc_drc.proofs.laws.counts_free_the_unheld.Goals as goal

pub returns : goal.returns
returns g s heap state roots types hosts done = two_leave s heap state.phase roots types hosts done
