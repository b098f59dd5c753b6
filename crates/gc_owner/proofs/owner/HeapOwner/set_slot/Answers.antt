use Rattle.std.proofs.Common.{◌+◌, ◌<◌, length, refl, sym, ap, ◌∙◌, subst}
use Rattle.gc_view.specs.Heaps.{HeapView, SameHeld}
use Rattle.gc_heap.specs.Collection.{has_host}
use Rattle.gc_owner.specs.RootColumns.{RootsView, roots_of}
use Rattle.gc_owner.proofs.ListUse.{list_use}
use Rattle.gc_owner.specs.Tracing.{IsCollectable}
use Rattle.gc_owner.proofs.OwnerLemmas.{ready_at, idle_at, word_at, changed_order, changed_seen}
use Rattle.gc_owner.specs.RootColumns.{newest_start, with_slot}
use Rattle.gc_owner.specs.RootColumns as columns
use Rattle.gc_owner.specs.ShownWords.{copied_to_slot}
use Rattle.gc_owner.proofs.ListedRoots.{few_held}
use Rattle.gc_owner.proofs.WordBarriers.{word_copyable}
use Rattle.gc_owner.proofs.FrameLemmas.{shown_held, slot_kept}
use Rattle.gc_owner.proofs.owner.HeapOwner.set_slot.Goals as goal

pub show_word-requires-clause-sound : goal.show_word-requires-clause-sound
show_word-requires-clause-sound g c = (ready_at g.H.GcHeap.KIND g.H.GcHeap.seen g.H.GcHeap.sound g.H.GcHeap.under_way c.self.inside.heap c.self.inside.types c.self.inside.hosts.entries c.self.inside.roots c.self.inside.last c.self.inside.state c.args.self.now c.self.invariant c.self.view_is c.requires.idle).sound

pub show_word-requires-clause-can : goal.show_word-requires-clause-can
show_word-requires-clause-can g c =
    let r = ready_at g.H.GcHeap.KIND g.H.GcHeap.seen g.H.GcHeap.sound g.H.GcHeap.under_way c.self.inside.heap c.self.inside.types c.self.inside.hosts.entries c.self.inside.roots c.self.inside.last c.self.inside.state c.args.self.now c.self.invariant c.self.view_is c.requires.idle in
    word_copyable g.H.GcHeap.KIND c.self.inside.types.declarations (g.H.GcHeap.seen c.self.inside.heap) (roots_of c.self.inside.roots) (has_host c.self.inside.hosts.entries) (g.met.H.GcHeap.is_heap c.self.inside.heap r.sound) r.can
    (few_held c.self.inside.roots c.are_few.ensures.few) c.args.entry.word (word_at g.H.GcHeap.KIND g.H.GcHeap.seen g.H.GcHeap.sound g.H.GcHeap.under_way c.self.inside.heap c.self.inside.types c.self.inside.hosts.entries c.self.inside.roots c.self.inside.last c.self.inside.state c.args.self.now c.self.view_is c.args.entry.word c.requires.word)

pub set_slot-requires : goal.set_slot-requires
set_slot-requires g c = subst (λ v. columns.HasSlot v.seen.roots c.args.index) (sym c.self.view_is) c.requires.slot

pub invariant_of-self : goal.invariant_of-self
invariant_of-self g c =
    let r = ready_at g.H.GcHeap.KIND g.H.GcHeap.seen g.H.GcHeap.sound g.H.GcHeap.under_way c.self.inside.heap c.self.inside.types c.self.inside.hosts.entries c.self.inside.roots c.self.inside.last c.self.inside.state c.args.self.now c.self.invariant c.self.view_is c.requires.idle in
    let h : HeapView = g.H.GcHeap.seen c.self.inside.heap in
    let h' : HeapView = copied_to_slot h c.args.entry.word in
    let has = subst (λ v. columns.HasSlot v.seen.roots c.args.index) (sym c.self.view_is) c.requires.slot in
    let below : newest_start c.self.inside.roots + c.args.index < length c.self.inside.roots.slots = has.1 in
    changed_order g.H.GcHeap.KIND g.H.GcHeap.seen g.H.GcHeap.sound g.H.GcHeap.under_way c.self.inside.heap c.self.inside.types c.self.inside.hosts.entries c.self.inside.roots c.self.inside.last c.self.inside.state c.show_word.new.heap c.set_slot.new.self (idle_at g.H.GcHeap.KIND g.H.GcHeap.seen g.H.GcHeap.sound g.H.GcHeap.under_way c.self.inside.heap c.self.inside.types c.self.inside.hosts.entries c.self.inside.roots c.self.inside.last c.self.inside.state c.args.self.now c.self.view_is c.requires.idle) r c.show_word.ensures.sound
    (subst (SameHeld h) (sym c.show_word.ensures.seen) (shown_held h c.args.entry.word))
    (subst (λ v. IsCollectable g.H.GcHeap.KIND c.self.inside.types.declarations v (roots_of c.set_slot.new.self) (has_host c.self.inside.hosts.entries)) (sym c.show_word.ensures.seen)
    (subst (λ (rs : RootsView). IsCollectable g.H.GcHeap.KIND c.self.inside.types.declarations h' (roots_of rs) (has_host c.self.inside.hosts.entries)) (sym c.set_slot.ensures)
    (slot_kept c.self.inside.roots (newest_start c.self.inside.roots + c.args.index) c.args.entry below g.H.GcHeap.KIND c.self.inside.types.declarations h (has_host c.self.inside.hosts.entries) r.can
    (word_at g.H.GcHeap.KIND g.H.GcHeap.seen g.H.GcHeap.sound g.H.GcHeap.under_way c.self.inside.heap c.self.inside.types c.self.inside.hosts.entries c.self.inside.roots c.self.inside.last c.self.inside.state c.args.self.now c.self.view_is c.args.entry.word c.requires.word) c.show_word.ensures.copied)))
    (ap list_use c.set_slot.ensures)

pub returns : goal.returns
returns g c =
    let h : HeapView = g.H.GcHeap.seen c.self.inside.heap in
    record {
      held = subst (λ v. SameHeld v (g.H.GcHeap.seen c.show_word.new.heap)) (ap (λ v. v.seen.heap) c.self.view_is) (subst (SameHeld h) (sym c.show_word.ensures.seen) (shown_held h c.args.entry.word));
      rest = changed_seen g.H.GcHeap.KIND g.H.GcHeap.seen g.H.GcHeap.sound g.H.GcHeap.under_way c.self.inside.heap c.self.inside.types c.self.inside.hosts.entries c.self.inside.roots c.self.inside.last c.self.inside.state c.args.self.now c.self.view_is c.show_word.new.heap _ c.set_slot.new.self _ refl
          (c.set_slot.ensures ∙ ap (λ v. with_slot c.args.index c.args.entry v.seen.roots) c.self.view_is);
    }
