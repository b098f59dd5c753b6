use Rattle.std.proofs.Common.{sym, ◌∙◌}
use Rattle.gc_heap.specs.Collection.{has_host}
use Rattle.gc_owner.specs.RootColumns.{roots_of}
use Rattle.gc_owner.proofs.OwnerLemmas.{ready_at, idle_at, first_order, made_stays}
use Rattle.gc_owner.proofs.owner.HeapOwner.make_heap.Goals as goal

pub make_heap-requires-clause-sound : goal.make_heap-requires-clause-sound
make_heap-requires-clause-sound g c = (ready_at g.H.GcHeap.KIND g.H.GcHeap.seen g.H.GcHeap.sound g.H.GcHeap.under_way c.self.inside.heap c.self.inside.types c.self.inside.hosts.entries c.self.inside.roots c.self.inside.last c.self.inside.state c.args.self.now c.self.invariant c.self.view_is c.requires.idle).sound

pub invariant_of-self : goal.invariant_of-self
invariant_of-self g c =
    let r = ready_at g.H.GcHeap.KIND g.H.GcHeap.seen g.H.GcHeap.sound g.H.GcHeap.under_way c.self.inside.heap c.self.inside.types c.self.inside.hosts.entries c.self.inside.roots c.self.inside.last c.self.inside.state c.args.self.now c.self.invariant c.self.view_is c.requires.idle in
    first_order g.H.GcHeap.KIND g.H.GcHeap.seen g.H.GcHeap.sound g.H.GcHeap.under_way c.self.inside.heap c.self.inside.types c.self.inside.hosts.entries c.self.inside.roots c.self.inside.last c.self.inside.state c.make_heap.new.heap (idle_at g.H.GcHeap.KIND g.H.GcHeap.seen g.H.GcHeap.sound g.H.GcHeap.under_way c.self.inside.heap c.self.inside.types c.self.inside.hosts.entries c.self.inside.roots c.self.inside.last c.self.inside.state c.args.self.now c.self.view_is c.requires.idle) r c.make_heap.ensures.sound
    (c.make_heap.ensures.keeps c.self.inside.types.declarations (roots_of c.self.inside.roots) (has_host c.self.inside.hosts.entries) r.can)
    (made_stays g.H.GcHeap.KIND c.args.first_pages (g.H.GcHeap.seen c.self.inside.heap) (g.H.GcHeap.seen c.make_heap.new.heap) _ _ c.make_heap.result c.make_heap.ensures.made)
    (sym c.has_places.ensures ∙ c.if-not-has_places.false)
