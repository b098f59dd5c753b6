use Rattle.gc_owner.specs.RootColumns.{roots_of}
use Rattle.gc_owner.specs.Owners.{owner_value}
use Rattle.gc_owner.proofs.OwnerLemmas.{ready_at, idle_at}
use Rattle.gc_owner.proofs.HostLemmas.{puts_kept, put_seen, hosts_order}
use Rattle.gc_owner.proofs.owner.HeapOwner.put_value.Goals as goal

pub invariant_of-self : goal.invariant_of-self
invariant_of-self g c =
    let r = ready_at g.H.GcHeap.KIND g.H.GcHeap.seen g.H.GcHeap.sound g.H.GcHeap.under_way c.self.inside.heap c.self.inside.types c.self.inside.hosts.entries c.self.inside.roots c.self.inside.last c.self.inside.state c.args.self.now c.self.invariant c.self.view_is c.requires.idle in
    hosts_order g.H.GcHeap.KIND g.H.GcHeap.seen g.H.GcHeap.sound g.H.GcHeap.under_way c.self.inside.heap c.self.inside.types c.self.inside.hosts.entries c.self.inside.roots c.self.inside.last c.self.inside.state c.put_in.new.hosts.entries (idle_at g.H.GcHeap.KIND g.H.GcHeap.seen g.H.GcHeap.sound g.H.GcHeap.under_way c.self.inside.heap c.self.inside.types c.self.inside.hosts.entries c.self.inside.roots c.self.inside.last c.self.inside.state c.args.self.now c.self.view_is c.requires.idle) r
    (puts_kept g.H.GcHeap.KIND c.self.inside.types.declarations (g.H.GcHeap.seen c.self.inside.heap) (roots_of c.self.inside.roots) c.args.value c.self.inside.hosts.entries c.put_in.new.hosts.entries c.put_in.result c.put_in.ensures r.can)

pub returns : goal.returns
returns g c =
    let r = ready_at g.H.GcHeap.KIND g.H.GcHeap.seen g.H.GcHeap.sound g.H.GcHeap.under_way c.self.inside.heap c.self.inside.types c.self.inside.hosts.entries c.self.inside.roots c.self.inside.last c.self.inside.state c.args.self.now c.self.invariant c.self.view_is c.requires.idle in
    put_seen {D = g.row.D.Denot} g.H.GcHeap.KIND (owner_value (g.H.GcHeap.seen c.self.inside.heap) c.self.inside.types c.self.inside.hosts.entries c.self.inside.roots c.self.inside.last c.self.inside.heap c.self.inside.state) c.args.self.now
    c.args.value c.put_in.new.hosts.entries c.put_in.result c.self.view_is r.can c.put_in.ensures
