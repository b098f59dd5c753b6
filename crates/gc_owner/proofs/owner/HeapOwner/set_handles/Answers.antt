use Rattle.std.proofs.Common.{◌<◌, length, sym, ap, subst, arith}
use Rattle.gc_view.specs.Heaps.{HeapView}
use Rattle.gc_heap.specs.Collection.{has_host}
use Rattle.gc_owner.specs.RootColumns.{RootsView, roots_of}
use Rattle.gc_owner.proofs.ListUse.{list_use}
use Rattle.gc_owner.specs.Tracing.{IsCollectable}
use Rattle.gc_owner.proofs.OwnerLemmas.{ready_at, idle_at, changed_order}
use Rattle.gc_owner.proofs.ScopeLemmas.{same_held}
use Rattle.gc_owner.proofs.OwnedLemmas.{handles_kept}
use Rattle.gc_owner.proofs.owner.HeapOwner.set_handles.Goals as goal

pub invariant_of-self : goal.invariant_of-self
invariant_of-self g c =
    let r = ready_at g.H.GcHeap.KIND g.H.GcHeap.seen g.H.GcHeap.sound g.H.GcHeap.under_way c.self.inside.heap c.self.inside.types c.self.inside.hosts.entries c.self.inside.roots c.self.inside.last c.self.inside.state c.args.self.now c.self.invariant c.self.view_is c.requires.idle in
    let h : HeapView = g.H.GcHeap.seen c.self.inside.heap in
    let below : c.args.index < length c.self.inside.roots.owned = omega (arith, c.requires.index, ap (λ v. length v.seen.roots.owned) c.self.view_is) in
    changed_order g.H.GcHeap.KIND g.H.GcHeap.seen g.H.GcHeap.sound g.H.GcHeap.under_way c.self.inside.heap c.self.inside.types c.self.inside.hosts.entries c.self.inside.roots c.self.inside.last c.self.inside.state c.self.inside.heap c.set_handles.new.self (idle_at g.H.GcHeap.KIND g.H.GcHeap.seen g.H.GcHeap.sound g.H.GcHeap.under_way c.self.inside.heap c.self.inside.types c.self.inside.hosts.entries c.self.inside.roots c.self.inside.last c.self.inside.state c.args.self.now c.self.view_is c.requires.idle) r r.sound (same_held h)
    (subst (λ (rs : RootsView). IsCollectable g.H.GcHeap.KIND c.self.inside.types.declarations h (roots_of rs) (has_host c.self.inside.hosts.entries)) (sym c.set_handles.ensures)
    (subst (λ rs. IsCollectable g.H.GcHeap.KIND c.self.inside.types.declarations h rs (has_host c.self.inside.hosts.entries)) (sym (handles_kept c.self.inside.roots c.args.index c.args.handles below)) r.can))
    (ap list_use c.set_handles.ensures)
