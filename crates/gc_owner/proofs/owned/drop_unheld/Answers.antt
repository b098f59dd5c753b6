use Rattle.std.proofs.Common.{◌+◌, get_or, sym, subst}
use Rattle.gc_view.specs.Heaps.{HeapView, SameHeld}
use Rattle.gc_owner.specs.RootColumns.{RootsView, roots_of, empty_entry}
use Rattle.gc_owner.specs.Tracing.{IsCollectable}
use Rattle.gc_owner.proofs.ScopeLemmas.{same_held}
use Rattle.gc_owner.proofs.OwnedLemmas.{trimmed, trimmed_none, trimmed_all, entry_droppable, entry_released, released_held}
use Rattle.gc_owner.proofs.owned.drop_unheld.Goals as goal

pub loop-entry-init : goal.loop-entry-init
loop-entry-init g c =
    let h : HeapView = g.H.GcHeap.seen c.args.heap.now in
    let none = sym (trimmed_none c.owned-entries.result.now c.args.roots.now c.owned-entries.ensures) in
    record {
      sound = c.requires.sound;
      can = record {
        types = c.requires.can.types;
        hosts = c.requires.can.hosts;
        collectable = subst (λ (r : RootsView). IsCollectable g.H.GcHeap.KIND c.requires.can.types h (roots_of r) c.requires.can.hosts) none c.requires.can.collectable;
      };
      held = same_held h;
      keeps = λ types hosts can. subst (λ (r : RootsView). IsCollectable g.H.GcHeap.KIND types h (roots_of r) hosts) none can;
    }

pub release-requires-clause-sound : goal.release-requires-clause-sound
release-requires-clause-sound g c = c.loop-entry.invariant.sound

pub release-requires-clause-can : goal.release-requires-clause-can
release-requires-clause-can g c = λ none.
    let can = c.loop-entry.invariant.can in
    entry_droppable g.H.GcHeap.KIND can.types (g.H.GcHeap.seen c.loop-entry.heap) can.hosts c.args.roots.now c.owned-entries.result.now c.loop-entry.entry-index empty_entry c.loop-entry-test.true can.collectable
    (g.met.H.GcHeap.is_heap c.loop-entry.heap c.loop-entry.invariant.sound)

pub loop-entry-preserved : goal.loop-entry-preserved
loop-entry-preserved g c =
    let h : HeapView = g.H.GcHeap.seen c.loop-entry.heap in
    let can = c.loop-entry.invariant.can in
    record {
      sound = c.release.ensures.sound;
      can = record {
        types = can.types;
        hosts = can.hosts;
        collectable =
            subst (λ (v : HeapView). IsCollectable g.H.GcHeap.KIND can.types v (roots_of (trimmed (c.loop-entry.entry-index + 1) c.owned-entries.result.now c.args.roots.now)) can.hosts) (sym c.release.ensures.seen)
            (entry_released g.H.GcHeap.KIND can.types h can.hosts c.args.roots.now c.owned-entries.result.now c.loop-entry.entry-index empty_entry c.loop-entry-test.true can.collectable);
      };
      held = subst (SameHeld (g.H.GcHeap.seen c.args.heap.now)) (sym c.release.ensures.seen) (released_held (g.H.GcHeap.seen c.args.heap.now) h (get_or c.owned-entries.result.now c.loop-entry.entry-index empty_entry) c.loop-entry.invariant.held);
      keeps = λ types hosts first.
          subst (λ (v : HeapView). IsCollectable g.H.GcHeap.KIND types v (roots_of (trimmed (c.loop-entry.entry-index + 1) c.owned-entries.result.now c.args.roots.now)) hosts) (sym c.release.ensures.seen)
          (entry_released g.H.GcHeap.KIND types h hosts c.args.roots.now c.owned-entries.result.now c.loop-entry.entry-index empty_entry c.loop-entry-test.true (c.loop-entry.invariant.keeps types hosts first));
    }

pub returns-clause-sound : goal.returns-clause-sound
returns-clause-sound g c = c.loop-entry.invariant.sound

pub returns-clause-held : goal.returns-clause-held
returns-clause-held g c = c.loop-entry.invariant.held

pub returns-clause-keeps : goal.returns-clause-keeps
returns-clause-keeps g c = λ types hosts can.
    subst (λ (r : RootsView). IsCollectable g.H.GcHeap.KIND types (g.H.GcHeap.seen c.loop-entry.heap) (roots_of r) hosts)
    (trimmed_all c.loop-entry.entry-index c.owned-entries.result.now c.args.roots.now c.owned-entries.ensures c.loop-entry-test.false) (c.loop-entry.invariant.keeps types hosts can)
