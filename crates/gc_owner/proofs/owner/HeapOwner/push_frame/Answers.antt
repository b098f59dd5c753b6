use Rattle.std.proofs.Common.{ap, ◌∙◌}
use Rattle.gc_view.specs.Heaps.{HeapView}
use Rattle.gc_heap.specs.Collection.{has_host}
use Rattle.gc_owner.specs.RootColumns.{with_places, with_frame}
use Rattle.gc_owner.proofs.OwnerLemmas.{ready_at, idle_at, changed_order, changed_seen}
use Rattle.gc_owner.proofs.ScopeLemmas.{same_held}
use Rattle.gc_owner.proofs.FrameLemmas.{Opens, opened_kept, opened_listed, along_ok, along_err}
use Rattle.gc_owner.proofs.owner.HeapOwner.push_frame.Goals as goal

pub invariant_of-self : goal.invariant_of-self
invariant_of-self g c =
    let r = ready_at g.H.GcHeap.KIND g.H.GcHeap.seen g.H.GcHeap.sound g.H.GcHeap.under_way c.self.inside.heap c.self.inside.types c.self.inside.hosts.entries c.self.inside.roots c.self.inside.last c.self.inside.state c.args.self.now c.self.invariant c.self.view_is c.requires.idle in
    let h : HeapView = g.H.GcHeap.seen c.self.inside.heap in
    let opens : Opens c.args.slots c.self.inside.roots c.push_frame.new.self c.push_frame.result = record { ok = c.push_frame.ensures.ok; err = c.push_frame.ensures.err } in
    changed_order g.H.GcHeap.KIND g.H.GcHeap.seen g.H.GcHeap.sound g.H.GcHeap.under_way c.self.inside.heap c.self.inside.types c.self.inside.hosts.entries c.self.inside.roots c.self.inside.last c.self.inside.state c.self.inside.heap c.push_frame.new.self (idle_at g.H.GcHeap.KIND g.H.GcHeap.seen g.H.GcHeap.sound g.H.GcHeap.under_way c.self.inside.heap c.self.inside.types c.self.inside.hosts.entries c.self.inside.roots c.self.inside.last c.self.inside.state c.args.self.now c.self.view_is c.requires.idle) r r.sound (same_held h)
    (opened_kept g.H.GcHeap.KIND c.self.inside.types.declarations h c.args.slots c.self.inside.roots c.push_frame.new.self (has_host c.self.inside.hosts.entries) c.push_frame.result opens r.can)
    (opened_listed c.args.slots c.self.inside.roots c.push_frame.new.self c.push_frame.result opens)

pub returns-clause-ok : goal.returns-clause-ok
returns-clause-ok g c =
    along_ok _ _ c.push_frame.result
    (λ is. changed_seen g.H.GcHeap.KIND g.H.GcHeap.seen g.H.GcHeap.sound g.H.GcHeap.under_way c.self.inside.heap c.self.inside.types c.self.inside.hosts.entries c.self.inside.roots c.self.inside.last c.self.inside.state c.args.self.now c.self.view_is c.self.inside.heap c.args.self.now.seen.heap c.push_frame.new.self _ (ap (λ v. v.seen.heap) c.self.view_is)
    (is ∙ ap (λ v. with_places c.push_frame.new.self (with_frame c.args.slots v.seen.roots)) c.self.view_is))
    c.push_frame.ensures.ok

pub returns-clause-err : goal.returns-clause-err
returns-clause-err g c =
    along_err _ _ c.push_frame.result
    (λ is. changed_seen g.H.GcHeap.KIND g.H.GcHeap.seen g.H.GcHeap.sound g.H.GcHeap.under_way c.self.inside.heap c.self.inside.types c.self.inside.hosts.entries c.self.inside.roots c.self.inside.last c.self.inside.state c.args.self.now c.self.view_is c.self.inside.heap c.args.self.now.seen.heap c.push_frame.new.self _ (ap (λ v. v.seen.heap) c.self.view_is)
    (is ∙ ap (λ v. with_places c.push_frame.new.self v.seen.roots) c.self.view_is))
    c.push_frame.ensures.err
