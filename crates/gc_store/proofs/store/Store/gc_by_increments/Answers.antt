use Rattle.std.proofs.Common.{◌≡◌, true, refl, sym, ◌∙◌, ap, subst}
use Rattle.gc_model.specs.Stores.{StoreView}
use Rattle.gc_model.specs.Holds.{HoldsTable}
use Rattle.gc_owner.specs.Owners.{heap_kind}
use Rattle.gc_store.specs.Stores.{store_view, tables_of}
use Rattle.gc_store.proofs.CollectedStores.{sound_collected}
use Rattle.gc_store.proofs.Incrementing.{takes_made, takes_none}
use Rattle.gc_store.proofs.Suspending.{collected_from, nothing_collected}
use Rattle.gc_store.proofs.store.Store.gc_by_increments.Given.{Over}
use Rattle.gc_store.proofs.store.Store.gc_by_increments.Goals as goal
use Rattle.gc_store.proofs.store.Store.gc_by_increments.Goals.{After-collect_by_increments}

-- the store before the collection
abbrev before : (g : Over) → After-collect_by_increments g → StoreView g.row.D.Denot
before g c = store_view c.self.inside.id c.self.inside.config (tables_of c.self.inside.interned c.self.inside.asked) c.self.inside.owner.seen c.self.inside.tries

attached : (g : Over) (c : After-collect_by_increments g) → c.self.inside.owner.seen.heap.attached ≡ true
attached g c = sym c.is_made.ensures ∙ c.if-is_made.true

pub invariant_of-self : goal.invariant_of-self
invariant_of-self g c =
    sound_collected g.H.GcHeap.KIND (before g c) c.self.inside.owner.seen c.collect_by_increments.new.owner.seen c.is_ready.ensures.frames (attached g c) c.collect_by_increments.ensures.collects c.self.inside.slot_counts.items c.self.invariant

pub returns-then-is_made-clause-collected : goal.returns-then-is_made-clause-collected
returns-then-is_made-clause-collected g c =
    let at = (goal.at.returns-then-is_made-clause-collected g c).After-collect_by_increments in
    collected_from (heap_kind g.H.GcHeap.KIND g.H.GcHeap.seen g.H.GcHeap.sound g.H.GcHeap.under_way) c.self.inside.id c.self.inside.config (tables_of c.self.inside.interned c.self.inside.asked) c.self.inside.tries c.args.self.now c.self.inside.owner.seen c.collect_by_increments.new.owner.seen
    (record { shows = c.self.view_is; in_frames = c.is_ready.ensures.frames; is_heap = c.is_ready.ensures.heap; attached = attached g at }) c.collect_by_increments.ensures.collects

pub returns-else-is_made-clause-collected : goal.returns-else-is_made-clause-collected
returns-else-is_made-clause-collected g c =
    nothing_collected g.H.GcHeap.KIND c.args.self.now (ap (λ (s : StoreView g.row.D.Denot). s.heap.attached) (sym c.self.view_is) ∙ sym c.is_made.ensures ∙ c.if-is_made.false)

pub returns-then-is_made-clause-increments : goal.returns-then-is_made-clause-increments
returns-then-is_made-clause-increments g c = λ t holds.
    let at = (goal.at.returns-then-is_made-clause-increments g c).After-collect_by_increments in
    takes_made g.H.GcHeap.KIND (before g at) t c.self.inside.owner.seen c.collect_by_increments.new.owner.seen c.collect_by_increments.result
    (subst (λ (s : StoreView g.row.D.Denot). HoldsTable g.H.GcHeap.KIND s t) (sym c.self.view_is) holds) c.is_ready.ensures.frames c.is_ready.ensures.heap (attached g at)
    c.collect_by_increments.ensures.collects c.collect_by_increments.ensures.counted

pub returns-else-is_made-clause-increments : goal.returns-else-is_made-clause-increments
returns-else-is_made-clause-increments g c = λ t holds.
    takes_none g.H.GcHeap.KIND c.args.self.now t 0 holds (ap (λ (s : StoreView g.row.D.Denot). s.heap.attached) (sym c.self.view_is) ∙ sym c.is_made.ensures ∙ c.if-is_made.false) refl
