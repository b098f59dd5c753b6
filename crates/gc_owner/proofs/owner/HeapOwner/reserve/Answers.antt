use Rattle.std.proofs.Common.{refl, sym, ap, ◌∙◌, subst}
use Rattle.gc_view.specs.Heaps.{HeapView}
use Rattle.gc_heap.specs.Collection.{has_host}
use Rattle.gc_owner.specs.RootColumns.{roots_of, with_room}
use Rattle.gc_owner.proofs.ListUse.{list_use}
use Rattle.gc_owner.specs.Tracing.{IsCollectable}
use Rattle.gc_owner.proofs.OwnerLemmas.{ready_at, idle_at, changed_order, changed_seen}
use Rattle.gc_owner.proofs.owner.HeapOwner.reserve.Goals as goal

pub invariant_of-self : goal.invariant_of-self
invariant_of-self g c =
    let r = ready_at g.H.GcHeap.KIND g.H.GcHeap.seen g.H.GcHeap.sound g.H.GcHeap.under_way c.self.inside.heap c.self.inside.types c.self.inside.hosts.entries c.self.inside.roots c.self.inside.last c.self.inside.state c.args.self.now c.self.invariant c.self.view_is c.requires.idle in
    let h : HeapView = g.H.GcHeap.seen c.self.inside.heap in
    changed_order g.H.GcHeap.KIND g.H.GcHeap.seen g.H.GcHeap.sound g.H.GcHeap.under_way c.self.inside.heap c.self.inside.types c.self.inside.hosts.entries c.self.inside.roots c.self.inside.last c.self.inside.state c.self.inside.heap c.reserve.new.self (idle_at g.H.GcHeap.KIND g.H.GcHeap.seen g.H.GcHeap.sound g.H.GcHeap.under_way c.self.inside.heap c.self.inside.types c.self.inside.hosts.entries c.self.inside.roots c.self.inside.last c.self.inside.state c.args.self.now c.self.view_is c.requires.idle) r r.sound (record { content = refl; attached = refl; capacity = refl; allocated = refl; needs_gc = refl })
    (subst (λ rs. IsCollectable g.H.GcHeap.KIND c.self.inside.types.declarations h (roots_of rs) (has_host c.self.inside.hosts.entries)) (sym c.reserve.ensures.rest) r.can)
    (ap list_use c.reserve.ensures.rest)

pub returns-clause-rest : goal.returns-clause-rest
returns-clause-rest g c =
    changed_seen g.H.GcHeap.KIND g.H.GcHeap.seen g.H.GcHeap.sound g.H.GcHeap.under_way c.self.inside.heap c.self.inside.types c.self.inside.hosts.entries c.self.inside.roots c.self.inside.last c.self.inside.state c.args.self.now c.self.view_is c.self.inside.heap c.args.self.now.seen.heap c.reserve.new.self (with_room c.reserve.new.self c.args.self.now.seen.roots)
    (ap (λ v. v.seen.heap) c.self.view_is) (c.reserve.ensures.rest ∙ ap (λ v. with_room c.reserve.new.self v.seen.roots) c.self.view_is)
