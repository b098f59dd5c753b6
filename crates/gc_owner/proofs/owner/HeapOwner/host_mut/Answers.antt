use Rattle.std.specs.FinMap as map
use Rattle.gc_owner.specs.RootColumns.{roots_of}
use Rattle.gc_owner.proofs.OwnerLemmas.{ready_at, idle_at}
use Rattle.gc_owner.proofs.HostLemmas.{more_kept, hosts_order}
use Rattle.gc_owner.proofs.owner.HeapOwner.host_mut.Goals as goal

pub invariant_of-self-lent : goal.invariant_of-self-lent
invariant_of-self-lent g c = λ w.
    let r = ready_at g.H.GcHeap.KIND g.H.GcHeap.seen g.H.GcHeap.sound g.H.GcHeap.under_way c.self.inside.heap c.self.inside.types c.self.inside.hosts.entries c.self.inside.roots c.self.inside.last c.self.inside.state c.args.self.now c.self.invariant c.self.view_is c.requires.idle in
    hosts_order g.H.GcHeap.KIND g.H.GcHeap.seen g.H.GcHeap.sound g.H.GcHeap.under_way c.self.inside.heap c.self.inside.types c.self.inside.hosts.entries c.self.inside.roots c.self.inside.last c.self.inside.state (map.insert c.self.inside.hosts.entries c.args.id w) (idle_at g.H.GcHeap.KIND g.H.GcHeap.seen g.H.GcHeap.sound g.H.GcHeap.under_way c.self.inside.heap c.self.inside.types c.self.inside.hosts.entries c.self.inside.roots c.self.inside.last c.self.inside.state c.args.self.now c.self.view_is c.requires.idle) r
    (more_kept {D = g.row.D.Denot} g.H.GcHeap.KIND c.self.inside.types.declarations (g.H.GcHeap.seen c.self.inside.heap) (roots_of c.self.inside.roots) c.self.inside.hosts.entries c.args.id w r.can)
