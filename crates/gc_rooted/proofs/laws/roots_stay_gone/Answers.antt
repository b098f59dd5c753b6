use Rattle.std.proofs.Common.{length}
use Rattle.gc_rooted.proofs.GoneRoots.{gone_push, gone_take, below_differs}
use Rattle.gc_rooted.proofs.laws.roots_stay_gone.Goals as goal

pub returns-clause-push : goal.returns-clause-push
returns-clause-push g c t x r below gone = gone_push x t.scoped (record { serial = length t.pushes; reference = r }) (below_differs x (length t.pushes) below) gone

pub returns-clause-make : goal.returns-clause-make
returns-clause-make g c t x o below gone = gone_push x t.scoped _ (below_differs x (length t.pushes) below) gone

pub returns-clause-leave : goal.returns-clause-leave
returns-clause-leave g c t x mark gone = gone_take x mark t.scoped gone
