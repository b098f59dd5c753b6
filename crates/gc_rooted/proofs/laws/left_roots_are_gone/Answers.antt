use Rattle.gc_rooted.proofs.GoneRoots.{left_gone}
use Rattle.gc_rooted.proofs.laws.left_roots_are_gone.Goals as goal

pub returns : goal.returns
returns g c t mark i root holds past here = left_gone g.H.GcHeap.KIND c.args.store.now t mark i root holds past here
