use Rattle.gc_heap.specs.Collection.{has_host}
use Rattle.gc_owner.specs.RootColumns.{roots_of}
use Rattle.gc_owner.proofs.GrowLemmas.{grown_attached}
use Rattle.gc_owner.proofs.OwnerLemmas.{ready_at, idle_at, made_order}
use Rattle.gc_owner.proofs.owner.HeapOwner.add_pages.Goals as goal

pub invariant_of-self : goal.invariant_of-self
invariant_of-self g c =
    let r = ready_at g.H.GcHeap.KIND g.H.GcHeap.seen g.H.GcHeap.sound g.H.GcHeap.under_way c.self.inside.heap c.self.inside.types c.self.inside.hosts.entries c.self.inside.roots c.self.inside.last c.self.inside.state c.args.self.now c.self.invariant c.self.view_is c.requires.idle in
    made_order g.H.GcHeap.KIND g.H.GcHeap.seen g.H.GcHeap.sound g.H.GcHeap.under_way c.self.inside.heap c.self.inside.types c.self.inside.hosts.entries c.self.inside.roots c.self.inside.last c.self.inside.state c.grow_memory.new.heap (idle_at g.H.GcHeap.KIND g.H.GcHeap.seen g.H.GcHeap.sound g.H.GcHeap.under_way c.self.inside.heap c.self.inside.types c.self.inside.hosts.entries c.self.inside.roots c.self.inside.last c.self.inside.state c.args.self.now c.self.view_is c.requires.idle) r c.grow_memory.ensures.sound
    (c.grow_memory.ensures.keeps c.self.inside.types.declarations (roots_of c.self.inside.roots) (has_host c.self.inside.hosts.entries) r.can)
    (grown_attached g.H.GcHeap.KIND c.args.bytes (g.H.GcHeap.seen c.self.inside.heap) (g.H.GcHeap.seen c.grow_memory.new.heap) _ _ c.grow_memory.result c.grow_memory.ensures.grown)
