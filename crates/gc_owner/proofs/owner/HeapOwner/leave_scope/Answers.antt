use Rattle.std.proofs.Common.{◌<◌, ◌≤◌, List, length, refl, sym, ap, ◌∙◌, subst, arith}
use Rattle.gc_view.specs.Heaps.{SameHeld}
use Rattle.gc_heap.specs.Collection.{has_host}
use Rattle.gc_owner.specs.declared.entry.RootEntry.{RootEntry}
use Rattle.gc_owner.specs.RootColumns.{RootsView, roots_of, left_scope}
use Rattle.gc_owner.proofs.ListUse.{list_use}
use Rattle.gc_owner.specs.Tracing.{IsCollectable}
use Rattle.gc_owner.proofs.OwnerLemmas.{ready_at, idle_at, changed_order, changed_seen}
use Rattle.gc_owner.proofs.ScopeLemmas.{same_held, left_none, left_some}
use Rattle.gc_owner.proofs.owner.HeapOwner.leave_scope.Goals as goal

pub drop_past-requires-clause-sound : goal.drop_past-requires-clause-sound
drop_past-requires-clause-sound g c = (ready_at g.H.GcHeap.KIND g.H.GcHeap.seen g.H.GcHeap.sound g.H.GcHeap.under_way c.self.inside.heap c.self.inside.types c.self.inside.hosts.entries c.self.inside.roots c.self.inside.last c.self.inside.state c.args.self.now c.self.invariant c.self.view_is c.requires.idle).sound

pub drop_past-requires-clause-can : goal.drop_past-requires-clause-can
drop_past-requires-clause-can g c = record {
  types = c.self.inside.types.declarations;
  hosts = has_host c.self.inside.hosts.entries;
  collectable = (ready_at g.H.GcHeap.KIND g.H.GcHeap.seen g.H.GcHeap.sound g.H.GcHeap.under_way c.self.inside.heap c.self.inside.types c.self.inside.hosts.entries c.self.inside.roots c.self.inside.last c.self.inside.state c.args.self.now c.self.invariant c.self.view_is c.requires.idle).can;
}

pub invariant_of-self : goal.invariant_of-self
invariant_of-self g c =
    let r = ready_at g.H.GcHeap.KIND g.H.GcHeap.seen g.H.GcHeap.sound g.H.GcHeap.under_way c.self.inside.heap c.self.inside.types c.self.inside.hosts.entries c.self.inside.roots c.self.inside.last c.self.inside.state c.args.self.now c.self.invariant c.self.view_is c.requires.idle in
    changed_order g.H.GcHeap.KIND g.H.GcHeap.seen g.H.GcHeap.sound g.H.GcHeap.under_way c.self.inside.heap c.self.inside.types c.self.inside.hosts.entries c.self.inside.roots c.self.inside.last c.self.inside.state c.drop_past.new.heap c.end_generation.new.self (idle_at g.H.GcHeap.KIND g.H.GcHeap.seen g.H.GcHeap.sound g.H.GcHeap.under_way c.self.inside.heap c.self.inside.types c.self.inside.hosts.entries c.self.inside.roots c.self.inside.last c.self.inside.state c.args.self.now c.self.view_is c.requires.idle) r c.drop_past.ensures.sound c.drop_past.ensures.held
    (subst (λ (rs : RootsView). IsCollectable g.H.GcHeap.KIND c.self.inside.types.declarations (g.H.GcHeap.seen c.drop_past.new.heap) (roots_of rs) (has_host c.self.inside.hosts.entries)) (sym c.end_generation.ensures)
    (c.drop_past.ensures.keeps c.self.inside.types.declarations (has_host c.self.inside.hosts.entries) r.can))
    (ap list_use c.end_generation.ensures ∙ ap list_use c.drop_past.ensures.roots)

pub returns-then-scoped-mark : goal.returns-then-scoped-mark
returns-then-scoped-mark g c =
    let few : length c.args.self.now.seen.roots.scoped ≤ c.args.mark =
    omega (arith, c.if-scoped-mark.true, ap (λ (es : List RootEntry). length es) c.scoped.ensures, ap (λ v. length v.seen.roots.scoped) c.self.view_is) in
    record {
      held = same_held c.args.self.now.seen.heap;
      rest = ap (λ (rs : RootsView). record c.args.self.now.seen { roots = rs }) (left_none c.args.mark c.args.self.now.seen.roots few);
    }

pub returns : goal.returns
returns g c =
    let past : c.args.mark < length c.self.inside.roots.scoped = omega (arith, c.if-scoped-mark.false, ap (λ (es : List RootEntry). length es) c.scoped.ensures) in
    record {
      held = subst (λ v. SameHeld v (g.H.GcHeap.seen c.drop_past.new.heap)) (ap (λ v. v.seen.heap) c.self.view_is) c.drop_past.ensures.held;
      rest = changed_seen g.H.GcHeap.KIND g.H.GcHeap.seen g.H.GcHeap.sound g.H.GcHeap.under_way c.self.inside.heap c.self.inside.types c.self.inside.hosts.entries c.self.inside.roots c.self.inside.last c.self.inside.state c.args.self.now c.self.view_is c.drop_past.new.heap _ c.end_generation.new.self _ refl
          (left_some c.args.mark c.self.inside.roots c.drop_past.new.roots c.end_generation.new.self past c.drop_past.ensures.roots c.end_generation.ensures
          ∙ ap (λ v. left_scope c.args.mark v.seen.roots) c.self.view_is);
    }
