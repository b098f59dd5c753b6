use Rattle.std.proofs.Common.{◌≡◌, true, sym, ◌∙◌, ap}
use Rattle.gc_model.specs.Stores.{StoreView}
use Rattle.gc_owner.specs.Owners.{heap_kind}
use Rattle.gc_store.specs.Stores.{store_view, tables_of}
use Rattle.gc_store.proofs.CollectedStores.{sound_collected}
use Rattle.gc_store.proofs.Suspending.{collected_from, nothing_collected}
use Rattle.gc_store.proofs.store.Store.gc.Given.{Over}
use Rattle.gc_store.proofs.store.Store.gc.Goals as goal
use Rattle.gc_store.proofs.store.Store.gc.Goals.{After-collect}

-- the store before the collection
abbrev before : (g : Over) → After-collect g → StoreView g.row.D.Denot
before g c = store_view c.self.inside.id c.self.inside.config (tables_of c.self.inside.interned c.self.inside.asked) c.self.inside.owner.seen c.self.inside.tries

attached : (g : Over) (c : After-collect g) → c.self.inside.owner.seen.heap.attached ≡ true
attached g c = sym c.is_made.ensures ∙ c.if-is_made.true

pub invariant_of-self : goal.invariant_of-self
invariant_of-self g c =
    sound_collected g.H.GcHeap.KIND (before g c) c.self.inside.owner.seen c.collect.new.self.seen c.is_ready.ensures.frames (attached g c) c.collect.ensures c.self.inside.slot_counts.items c.self.invariant

pub returns-then-is_made : goal.returns-then-is_made
returns-then-is_made g c =
    let at = (goal.at.returns-then-is_made g c).After-collect in
    collected_from (heap_kind g.H.GcHeap.KIND g.H.GcHeap.seen g.H.GcHeap.sound g.H.GcHeap.under_way) c.self.inside.id c.self.inside.config (tables_of c.self.inside.interned c.self.inside.asked) c.self.inside.tries c.args.self.now c.self.inside.owner.seen c.collect.new.self.seen
    (record { shows = c.self.view_is; in_frames = c.is_ready.ensures.frames; is_heap = c.is_ready.ensures.heap; attached = attached g at }) c.collect.ensures

pub returns-else-is_made : goal.returns-else-is_made
returns-else-is_made g c =
    nothing_collected g.H.GcHeap.KIND c.args.self.now (ap (λ (s : StoreView g.row.D.Denot). s.heap.attached) (sym c.self.view_is) ∙ sym c.is_made.ensures ∙ c.if-is_made.false)
