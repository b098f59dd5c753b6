use Rattle.gc_owner.proofs.OwnerLemmas.{ready_at}
use Rattle.gc_owner.proofs.owner.HeapOwner.heap.Goals as goal

pub returns-clause-sound : goal.returns-clause-sound
returns-clause-sound g c = (ready_at g.H.GcHeap.KIND g.H.GcHeap.seen g.H.GcHeap.sound g.H.GcHeap.under_way c.self.inside.heap c.self.inside.types c.self.inside.hosts.entries c.self.inside.roots c.self.inside.last c.self.inside.state c.args.self.now c.self.invariant c.self.view_is c.requires.idle).sound
