use Rattle.std.proofs.Common.{refl, sym, ap, ◌∙◌, subst}
use Rattle.gc_view.specs.Heaps.{HeapView, SameHeld}
use Rattle.gc_heap.specs.Collection.{has_host}
use Rattle.gc_owner.specs.RootColumns.{RootsView, roots_of, with_places, with_owned_root}
use Rattle.gc_owner.proofs.ListUse.{list_use}
use Rattle.gc_owner.specs.Tracing.{IsCollectable}
use Rattle.gc_owner.proofs.OwnerLemmas.{ready_at, idle_at, word_at, changed_order, changed_seen}
use Rattle.gc_owner.specs.Owners.{raised}
use Rattle.gc_owner.proofs.ListedRoots.{few_held}
use Rattle.gc_owner.proofs.WordBarriers.{word_copyable, raised_held}
use Rattle.gc_owner.proofs.OwnedLemmas.{owned_kept}
use Rattle.gc_owner.proofs.owner.HeapOwner.own.Goals as goal

pub copy_word-requires-clause-can : goal.copy_word-requires-clause-can
copy_word-requires-clause-can g c =
    let r = ready_at g.H.GcHeap.KIND g.H.GcHeap.seen g.H.GcHeap.sound g.H.GcHeap.under_way c.self.inside.heap c.self.inside.types c.self.inside.hosts.entries c.self.inside.roots c.self.inside.last c.self.inside.state c.args.self.now c.self.invariant c.self.view_is c.requires.idle in
    word_copyable g.H.GcHeap.KIND c.self.inside.types.declarations (g.H.GcHeap.seen c.self.inside.heap) (roots_of c.self.inside.roots) (has_host c.self.inside.hosts.entries) (g.met.H.GcHeap.is_heap c.self.inside.heap r.sound) r.can
    (few_held c.self.inside.roots c.are_few.ensures.few) c.args.word (word_at g.H.GcHeap.KIND g.H.GcHeap.seen g.H.GcHeap.sound g.H.GcHeap.under_way c.self.inside.heap c.self.inside.types c.self.inside.hosts.entries c.self.inside.roots c.self.inside.last c.self.inside.state c.args.self.now c.self.view_is c.args.word c.requires.word)

pub invariant_of-self-2 : goal.invariant_of-self-2
invariant_of-self-2 g c =
    let r = ready_at g.H.GcHeap.KIND g.H.GcHeap.seen g.H.GcHeap.sound g.H.GcHeap.under_way c.self.inside.heap c.self.inside.types c.self.inside.hosts.entries c.self.inside.roots c.self.inside.last c.self.inside.state c.args.self.now c.self.invariant c.self.view_is c.requires.idle in
    let h : HeapView = g.H.GcHeap.seen c.self.inside.heap in
    changed_order g.H.GcHeap.KIND g.H.GcHeap.seen g.H.GcHeap.sound g.H.GcHeap.under_way c.self.inside.heap c.self.inside.types c.self.inside.hosts.entries c.self.inside.roots c.self.inside.last c.self.inside.state c.copy_word.new.heap c.own.new.self (idle_at g.H.GcHeap.KIND g.H.GcHeap.seen g.H.GcHeap.sound g.H.GcHeap.under_way c.self.inside.heap c.self.inside.types c.self.inside.hosts.entries c.self.inside.roots c.self.inside.last c.self.inside.state c.args.self.now c.self.view_is c.requires.idle) r c.copy_word.ensures.sound
    (subst (SameHeld h) (sym c.copy_word.ensures.seen) (raised_held h c.args.word))
    (subst (λ v. IsCollectable g.H.GcHeap.KIND c.self.inside.types.declarations v (roots_of c.own.new.self) (has_host c.self.inside.hosts.entries)) (sym c.copy_word.ensures.seen)
    (subst (λ (rs : RootsView). IsCollectable g.H.GcHeap.KIND c.self.inside.types.declarations (raised h c.args.word) (roots_of rs) (has_host c.self.inside.hosts.entries)) (sym c.in_ok-own.ensures.ok)
    (owned_kept g.H.GcHeap.KIND c.self.inside.types.declarations h c.self.inside.roots (has_host c.self.inside.hosts.entries) c.args.word r.can (word_at g.H.GcHeap.KIND g.H.GcHeap.seen g.H.GcHeap.sound g.H.GcHeap.under_way c.self.inside.heap c.self.inside.types c.self.inside.hosts.entries c.self.inside.roots c.self.inside.last c.self.inside.state c.args.self.now c.self.view_is c.args.word c.requires.word))))
    (ap list_use c.in_ok-own.ensures.ok)

pub returns-clause-ok : goal.returns-clause-ok
returns-clause-ok g c =
    let h : HeapView = g.H.GcHeap.seen c.self.inside.heap in
    record {
      held = subst (λ v. SameHeld v (g.H.GcHeap.seen c.copy_word.new.heap)) (ap (λ v. v.seen.heap) c.self.view_is) (subst (SameHeld h) (sym c.copy_word.ensures.seen) (raised_held h c.args.word));
      rest = changed_seen g.H.GcHeap.KIND g.H.GcHeap.seen g.H.GcHeap.sound g.H.GcHeap.under_way c.self.inside.heap c.self.inside.types c.self.inside.hosts.entries c.self.inside.roots c.self.inside.last c.self.inside.state c.args.self.now c.self.view_is c.copy_word.new.heap _ c.own.new.self _ refl
          (c.in_ok-own.ensures.ok ∙ ap (λ v. with_places c.own.new.self (with_owned_root c.args.word v.seen.roots)) c.self.view_is);
    }
