use Rattle.std.proofs.Common.{◌<◌, length, refl, sym, ap, ◌∙◌, subst, arith}
use Rattle.gc_view.specs.Heaps.{HeapView, SameHeld}
use Rattle.gc_heap.specs.Collection.{has_host}
use Rattle.gc_owner.specs.declared.entry.SlotEntry.{SlotEntry}
use Rattle.gc_owner.specs.RootColumns.{roots_of, with_global}
use Rattle.gc_owner.proofs.ListUse.{list_use}
use Rattle.gc_owner.specs.Owners.{raised, lowered, CanDropWord}
use Rattle.gc_owner.specs.Tracing.{IsCollectable}
use Rattle.gc_owner.proofs.ListedRoots.{few_held}
use Rattle.gc_owner.proofs.WordBarriers.{word_copyable, replaced_held}
use Rattle.gc_owner.proofs.OwnerLemmas.{ready_at, idle_at, word_at, changed_order, changed_seen, global_droppable, global_kept}
use Rattle.gc_owner.proofs.owner.HeapOwner.set_global.Goals as goal

pub overwrite_word-requires-clause-sound : goal.overwrite_word-requires-clause-sound
overwrite_word-requires-clause-sound g c = (ready_at g.H.GcHeap.KIND g.H.GcHeap.seen g.H.GcHeap.sound g.H.GcHeap.under_way c.self.inside.heap c.self.inside.types c.self.inside.hosts.entries c.self.inside.roots c.self.inside.last c.self.inside.state c.args.self.now c.self.invariant c.self.view_is c.requires.idle).sound

pub overwrite_word-requires-clause-copies : goal.overwrite_word-requires-clause-copies
overwrite_word-requires-clause-copies g c =
    let r = ready_at g.H.GcHeap.KIND g.H.GcHeap.seen g.H.GcHeap.sound g.H.GcHeap.under_way c.self.inside.heap c.self.inside.types c.self.inside.hosts.entries c.self.inside.roots c.self.inside.last c.self.inside.state c.args.self.now c.self.invariant c.self.view_is c.requires.idle in
    word_copyable g.H.GcHeap.KIND c.self.inside.types.declarations (g.H.GcHeap.seen c.self.inside.heap) (roots_of c.self.inside.roots) (has_host c.self.inside.hosts.entries) (g.met.H.GcHeap.is_heap c.self.inside.heap r.sound) r.can (few_held c.self.inside.roots c.are_few.ensures.few) c.args.entry.word (word_at g.H.GcHeap.KIND g.H.GcHeap.seen g.H.GcHeap.sound g.H.GcHeap.under_way c.self.inside.heap c.self.inside.types c.self.inside.hosts.entries c.self.inside.roots c.self.inside.last c.self.inside.state c.args.self.now c.self.view_is c.args.entry.word c.requires.word)

pub overwrite_word-requires-clause-drops : goal.overwrite_word-requires-clause-drops
overwrite_word-requires-clause-drops g c =
    let r = ready_at g.H.GcHeap.KIND g.H.GcHeap.seen g.H.GcHeap.sound g.H.GcHeap.under_way c.self.inside.heap c.self.inside.types c.self.inside.hosts.entries c.self.inside.roots c.self.inside.last c.self.inside.state c.args.self.now c.self.invariant c.self.view_is c.requires.idle in
    let below : c.args.index < length c.self.inside.roots.globals = omega (arith, c.requires.index, c.are_few.ensures.few.globals) in
    subst (λ (e : SlotEntry). CanDropWord (g.H.GcHeap.seen c.self.inside.heap) e.word) (sym c.global-old_word.ensures)
    (global_droppable c.self.inside.roots c.args.index c.args.entry below g.H.GcHeap.KIND c.self.inside.types.declarations (g.H.GcHeap.seen c.self.inside.heap) (has_host c.self.inside.hosts.entries) r.can (g.met.H.GcHeap.is_heap c.self.inside.heap r.sound))

pub invariant_of-self : goal.invariant_of-self
invariant_of-self g c =
    let r = ready_at g.H.GcHeap.KIND g.H.GcHeap.seen g.H.GcHeap.sound g.H.GcHeap.under_way c.self.inside.heap c.self.inside.types c.self.inside.hosts.entries c.self.inside.roots c.self.inside.last c.self.inside.state c.args.self.now c.self.invariant c.self.view_is c.requires.idle in
    let h : HeapView = g.H.GcHeap.seen c.self.inside.heap in
    let below : c.args.index < length c.self.inside.roots.globals = omega (arith, c.requires.index, c.are_few.ensures.few.globals) in
    changed_order g.H.GcHeap.KIND g.H.GcHeap.seen g.H.GcHeap.sound g.H.GcHeap.under_way c.self.inside.heap c.self.inside.types c.self.inside.hosts.entries c.self.inside.roots c.self.inside.last c.self.inside.state c.overwrite_word.new.heap c.set_global.new.self (idle_at g.H.GcHeap.KIND g.H.GcHeap.seen g.H.GcHeap.sound g.H.GcHeap.under_way c.self.inside.heap c.self.inside.types c.self.inside.hosts.entries c.self.inside.roots c.self.inside.last c.self.inside.state c.args.self.now c.self.view_is c.requires.idle) r c.overwrite_word.ensures.sound
    (subst (SameHeld h) (sym c.overwrite_word.ensures.seen) (replaced_held h c.global-old_word.result.word c.args.entry.word))
    (subst (λ v. IsCollectable g.H.GcHeap.KIND c.self.inside.types.declarations v (roots_of c.set_global.new.self) (has_host c.self.inside.hosts.entries)) (sym c.overwrite_word.ensures.seen)
    (subst (λ rs. IsCollectable g.H.GcHeap.KIND c.self.inside.types.declarations (lowered (raised h c.args.entry.word) c.global-old_word.result.word) (roots_of rs) (has_host c.self.inside.hosts.entries)) (sym c.set_global.ensures)
    (subst (λ (e : SlotEntry). IsCollectable g.H.GcHeap.KIND c.self.inside.types.declarations (lowered (raised h c.args.entry.word) e.word) (roots_of (with_global c.args.index c.args.entry c.self.inside.roots)) (has_host c.self.inside.hosts.entries)) (sym c.global-old_word.ensures)
    (global_kept c.self.inside.roots c.args.index c.args.entry below g.H.GcHeap.KIND c.self.inside.types.declarations h (has_host c.self.inside.hosts.entries) r.can (word_at g.H.GcHeap.KIND g.H.GcHeap.seen g.H.GcHeap.sound g.H.GcHeap.under_way c.self.inside.heap c.self.inside.types c.self.inside.hosts.entries c.self.inside.roots c.self.inside.last c.self.inside.state c.args.self.now c.self.view_is c.args.entry.word c.requires.word)))))
    (ap list_use c.set_global.ensures)

pub returns : goal.returns
returns g c =
    let h : HeapView = g.H.GcHeap.seen c.self.inside.heap in
    record {
      held = subst (λ v. SameHeld v (g.H.GcHeap.seen c.overwrite_word.new.heap)) (ap (λ v. v.seen.heap) c.self.view_is) (subst (SameHeld h) (sym c.overwrite_word.ensures.seen) (replaced_held h c.global-old_word.result.word c.args.entry.word));
      rest = changed_seen g.H.GcHeap.KIND g.H.GcHeap.seen g.H.GcHeap.sound g.H.GcHeap.under_way c.self.inside.heap c.self.inside.types c.self.inside.hosts.entries c.self.inside.roots c.self.inside.last c.self.inside.state c.args.self.now c.self.view_is c.overwrite_word.new.heap _ c.set_global.new.self _ refl (c.set_global.ensures ∙ ap (λ v. with_global c.args.index c.args.entry v.seen.roots) c.self.view_is);
    }
