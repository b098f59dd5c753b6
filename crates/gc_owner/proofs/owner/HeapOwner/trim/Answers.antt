use Rattle.std.proofs.Common.{refl, sym, ap, ◌∙◌, subst}
use Rattle.gc_view.specs.Heaps.{SameHeld}
use Rattle.gc_heap.specs.Collection.{has_host}
use Rattle.gc_owner.specs.RootColumns.{RootsView, roots_of, with_places, with_handles}
use Rattle.gc_owner.proofs.ListUse.{list_use}
use Rattle.gc_owner.specs.Tracing.{IsCollectable}
use Rattle.gc_owner.proofs.OwnerLemmas.{ready_at, idle_at, changed_order, changed_seen}
use Rattle.gc_owner.proofs.owner.HeapOwner.trim.Goals as goal

pub drop_unheld-requires-clause-can : goal.drop_unheld-requires-clause-can
drop_unheld-requires-clause-can g c = record { types = c.self.inside.types.declarations; hosts = has_host c.self.inside.hosts.entries; collectable = (ready_at g.H.GcHeap.KIND g.H.GcHeap.seen g.H.GcHeap.sound g.H.GcHeap.under_way c.self.inside.heap c.self.inside.types c.self.inside.hosts.entries c.self.inside.roots c.self.inside.last c.self.inside.state c.args.self.now c.self.invariant c.self.view_is c.requires.idle).can }

pub invariant_of-self : goal.invariant_of-self
invariant_of-self g c =
    let r = ready_at g.H.GcHeap.KIND g.H.GcHeap.seen g.H.GcHeap.sound g.H.GcHeap.under_way c.self.inside.heap c.self.inside.types c.self.inside.hosts.entries c.self.inside.roots c.self.inside.last c.self.inside.state c.args.self.now c.self.invariant c.self.view_is c.requires.idle in
    changed_order g.H.GcHeap.KIND g.H.GcHeap.seen g.H.GcHeap.sound g.H.GcHeap.under_way c.self.inside.heap c.self.inside.types c.self.inside.hosts.entries c.self.inside.roots c.self.inside.last c.self.inside.state c.drop_unheld.new.heap c.forget_unheld.new.self (idle_at g.H.GcHeap.KIND g.H.GcHeap.seen g.H.GcHeap.sound g.H.GcHeap.under_way c.self.inside.heap c.self.inside.types c.self.inside.hosts.entries c.self.inside.roots c.self.inside.last c.self.inside.state c.args.self.now c.self.view_is c.requires.idle) r c.drop_unheld.ensures.sound c.drop_unheld.ensures.held
    (subst (λ (rs : RootsView). IsCollectable g.H.GcHeap.KIND c.self.inside.types.declarations (g.H.GcHeap.seen c.drop_unheld.new.heap) (roots_of rs) (has_host c.self.inside.hosts.entries)) (sym c.forget_unheld.ensures)
    (c.drop_unheld.ensures.keeps c.self.inside.types.declarations (has_host c.self.inside.hosts.entries) r.can))
    (ap list_use c.forget_unheld.ensures)

pub returns : goal.returns
returns g c =
    let r = ready_at g.H.GcHeap.KIND g.H.GcHeap.seen g.H.GcHeap.sound g.H.GcHeap.under_way c.self.inside.heap c.self.inside.types c.self.inside.hosts.entries c.self.inside.roots c.self.inside.last c.self.inside.state c.args.self.now c.self.invariant c.self.view_is c.requires.idle in
    record {
      changes = record {
        held = subst (λ v. SameHeld v (g.H.GcHeap.seen c.drop_unheld.new.heap)) (ap (λ v. v.seen.heap) c.self.view_is) c.drop_unheld.ensures.held;
        rest = changed_seen g.H.GcHeap.KIND g.H.GcHeap.seen g.H.GcHeap.sound g.H.GcHeap.under_way c.self.inside.heap c.self.inside.types c.self.inside.hosts.entries c.self.inside.roots c.self.inside.last c.self.inside.state c.args.self.now c.self.view_is c.drop_unheld.new.heap _ c.forget_unheld.new.self _ refl
            (c.forget_unheld.ensures ∙ ap (λ v. with_places c.forget_unheld.new.self (record v.seen.roots { owned = with_handles v.seen.roots.owned })) c.self.view_is);
      };
      is_heap = g.met.H.GcHeap.is_heap c.drop_unheld.new.heap c.drop_unheld.ensures.sound;
      can = subst (λ (rs : RootsView). IsCollectable g.H.GcHeap.KIND c.self.inside.types.declarations (g.H.GcHeap.seen c.drop_unheld.new.heap) (roots_of rs) (has_host c.self.inside.hosts.entries)) (sym c.forget_unheld.ensures)
          (c.drop_unheld.ensures.keeps c.self.inside.types.declarations (has_host c.self.inside.hosts.entries) r.can);
    }
