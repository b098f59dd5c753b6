use Rattle.std.proofs.Common.{sym, subst}
use Rattle.gc_heap.specs.Collection.{has_host}
use Rattle.gc_owner.specs.RootColumns.{roots_of}
use Rattle.gc_owner.specs.Tracing.{IsCollectable}
use Rattle.gc_owner.specs.Makes.{IsFreeHost}
use Rattle.gc_owner.proofs.OwnerLemmas.{ready_at, idle_at}
use Rattle.gc_owner.proofs.HostLemmas.{less_kept, hosts_order}
use Rattle.gc_owner.proofs.owner.HeapOwner.take_value.Goals as goal

pub invariant_of-self : goal.invariant_of-self
invariant_of-self g c =
    let r = ready_at g.H.GcHeap.KIND g.H.GcHeap.seen g.H.GcHeap.sound g.H.GcHeap.under_way c.self.inside.heap c.self.inside.types c.self.inside.hosts.entries c.self.inside.roots c.self.inside.last c.self.inside.state c.args.self.now c.self.invariant c.self.view_is c.requires.idle in
    let free = subst (λ v. IsFreeHost v.seen c.args.id) (sym c.self.view_is) c.requires.free in
    hosts_order g.H.GcHeap.KIND g.H.GcHeap.seen g.H.GcHeap.sound g.H.GcHeap.under_way c.self.inside.heap c.self.inside.types c.self.inside.hosts.entries c.self.inside.roots c.self.inside.last c.self.inside.state c.dealloc.new.self.entries (idle_at g.H.GcHeap.KIND g.H.GcHeap.seen g.H.GcHeap.sound g.H.GcHeap.under_way c.self.inside.heap c.self.inside.types c.self.inside.hosts.entries c.self.inside.roots c.self.inside.last c.self.inside.state c.args.self.now c.self.view_is c.requires.idle) r
    (subst (λ m. IsCollectable g.H.GcHeap.KIND c.self.inside.types.declarations (g.H.GcHeap.seen c.self.inside.heap) (roots_of c.self.inside.roots) (has_host m)) (sym c.in-Ok.ensures.removed)
    (less_kept g.H.GcHeap.KIND c.self.inside.types.declarations (g.H.GcHeap.seen c.self.inside.heap) (roots_of c.self.inside.roots) c.self.inside.hosts.entries c.args.id free.unused r.can))
