use Rattle.std.proofs.Common.{◌<◌, length, sym, ap, ◌∙◌, subst}
use Rattle.gc_view.specs.Heaps.{HeapView}
use Rattle.gc_heap.specs.Collection.{has_host}
use Rattle.gc_owner.specs.RootColumns.{with_places, without_frame}
use Rattle.gc_owner.proofs.OwnerLemmas.{ready_at, idle_at, changed_order, changed_seen}
use Rattle.gc_owner.proofs.ScopeLemmas.{same_held}
use Rattle.gc_owner.proofs.FrameLemmas.{Closes, closed_kept, closed_listed}
use Rattle.gc_owner.proofs.owner.HeapOwner.pop_frame.Goals as goal

pub invariant_of-self : goal.invariant_of-self
invariant_of-self g c =
    let r = ready_at g.H.GcHeap.KIND g.H.GcHeap.seen g.H.GcHeap.sound g.H.GcHeap.under_way c.self.inside.heap c.self.inside.types c.self.inside.hosts.entries c.self.inside.roots c.self.inside.last c.self.inside.state c.args.self.now c.self.invariant c.self.view_is c.requires.idle in
    let h : HeapView = g.H.GcHeap.seen c.self.inside.heap in
    let closes : Closes c.self.inside.roots c.pop_frame.new.self c.pop_frame.result = record { some = c.pop_frame.ensures.closed; none = c.pop_frame.ensures.none } in
    changed_order g.H.GcHeap.KIND g.H.GcHeap.seen g.H.GcHeap.sound g.H.GcHeap.under_way c.self.inside.heap c.self.inside.types c.self.inside.hosts.entries c.self.inside.roots c.self.inside.last c.self.inside.state c.self.inside.heap c.pop_frame.new.self (idle_at g.H.GcHeap.KIND g.H.GcHeap.seen g.H.GcHeap.sound g.H.GcHeap.under_way c.self.inside.heap c.self.inside.types c.self.inside.hosts.entries c.self.inside.roots c.self.inside.last c.self.inside.state c.args.self.now c.self.view_is c.requires.idle) r r.sound (same_held h)
    (closed_kept g.H.GcHeap.KIND c.self.inside.types.declarations h c.self.inside.roots c.pop_frame.new.self (has_host c.self.inside.hosts.entries) c.pop_frame.result closes r.can)
    (closed_listed c.self.inside.roots c.pop_frame.new.self c.pop_frame.result closes)

pub returns-clause-closed : goal.returns-clause-closed
returns-clause-closed g c = λ is.
    let closed = c.pop_frame.ensures.closed is in (
      subst (λ v. 0 < length v.seen.roots.frames) c.self.view_is closed.0,
      changed_seen g.H.GcHeap.KIND g.H.GcHeap.seen g.H.GcHeap.sound g.H.GcHeap.under_way c.self.inside.heap c.self.inside.types c.self.inside.hosts.entries c.self.inside.roots c.self.inside.last c.self.inside.state c.args.self.now c.self.view_is c.self.inside.heap c.args.self.now.seen.heap c.pop_frame.new.self _ (ap (λ v. v.seen.heap) c.self.view_is)
          (closed.1 ∙ ap (λ v. with_places c.pop_frame.new.self (without_frame v.seen.roots)) c.self.view_is),
    )

pub returns-clause-none : goal.returns-clause-none
returns-clause-none g c = λ is.
    let none = c.pop_frame.ensures.none is in (
      ap (λ v. v.seen.roots.frames) (sym c.self.view_is) ∙ none.0,
      changed_seen g.H.GcHeap.KIND g.H.GcHeap.seen g.H.GcHeap.sound g.H.GcHeap.under_way c.self.inside.heap c.self.inside.types c.self.inside.hosts.entries c.self.inside.roots c.self.inside.last c.self.inside.state c.args.self.now c.self.view_is c.self.inside.heap c.args.self.now.seen.heap c.pop_frame.new.self c.args.self.now.seen.roots (ap (λ v. v.seen.heap) c.self.view_is)
          (none.1 ∙ ap (λ v. v.seen.roots) c.self.view_is),
    )
