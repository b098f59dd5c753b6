use Rattle.std.proofs.Common.{◌≡◌, ℕ, List, sym, subst}
use Rattle.gc_types.specs.Declarations.{TypeTable, Declaration}
use Rattle.gc_types.specs.Layouts.{storage_width}
use Rattle.gc_view.specs.Heaps.{HeapView}
use Rattle.gc_view.specs.Slots.{StorageSlot}
use Rattle.gc_heap.specs.Access.{IsReadable}
use Rattle.gc_model.specs.Forms.{naming, storage_form}
use Rattle.gc_model.specs.Values.{Value}
use Rattle.gc_model.specs.Table.{Table}
use Rattle.gc_model.specs.Holds.{Placing, Holds}
use Rattle.gc_model.specs.Stores.{StoreView}
use Rattle.gc_store.specs.Reading.{CanReadIn}
use Rattle.gc_values.specs.Kept.{FoundStands}
use Rattle.gc_values.specs.HeldSlots.{storage_slot, FindsAt, FitsAt, FindsHeldSlot, IsHeldWithSlot}
use Rattle.gc_store.specs.Stores.{store_view, tables_of}
use Rattle.gc_store.proofs.Roots.{SomeIff-value, SomeIff-some}
use Rattle.gc_store.proofs.LyingAt.{LyingAt, lying_in, has_slot, slot_readable, slot_is_found, found_stands}
use Rattle.gc_store.proofs.store.Store.found_in.Given as given
use Rattle.gc_store.proofs.store.Store.found_in.Goals as goal
use Rattle.gc_store.proofs.store.Store.found_in.Goals.{After-is_ready, After-unwrap-gc_ref, After-types, After-slot_in-slot}

-- the store, as it stands inside its invariant
abbrev view : (g : given.Over) (c : After-is_ready g) → StoreView g.row.D.Denot
view g c = store_view c.self.inside.id c.self.inside.config (tables_of c.self.inside.interned c.self.inside.asked) c.self.inside.owner.seen c.self.inside.tries

can : (g : given.Over) (c : After-is_ready g) → CanReadIn g.row.D.Denot g.H.GcHeap.KIND (view g c) c.args.word c.args.index
can g c = subst (λ (s : StoreView g.row.D.Denot). CanReadIn g.row.D.Denot g.H.GcHeap.KIND s c.args.word c.args.index) (sym c.self.view_is) c.requires

-- where the value lies, in some table that the store holds
spot : (g : given.Over) (c : After-is_ready g)
    → LyingAt g.H.GcHeap.KIND (view g c) (can g c).table (can g c).place (can g c).has.position c.args.word (can g c).has.object c.args.index (can g c).value
spot g c = lying_in g.H.GcHeap.KIND (view g c) (can g c).table (can g c).place (can g c).holds c.args.word c.args.index (can g c).value (can g c).has

pub unwrap-gc_ref-requires : goal.unwrap-gc_ref-requires
unwrap-gc_ref-requires g c = SomeIff-some _ c.from_raw_u32.result c.args.word c.from_raw_u32.ensures (spot g (goal.at.unwrap-gc_ref-requires g c).After-is_ready).not_zero

-- the reference has the word
same_word : (g : given.Over) (c : After-unwrap-gc_ref g) → c.unwrap-gc_ref.result ≡ c.args.word
same_word g c = SomeIff-value _ c.from_raw_u32.result c.args.word c.unwrap-gc_ref.result c.from_raw_u32.ensures c.unwrap-gc_ref.ensures

-- what the owner lends is what it has
lent : (g : given.Over) (c : After-types g) → (P : List Declaration → HeapView → ℕ → Type 0) → P c.self.inside.owner.seen.types.declarations c.self.inside.owner.seen.heap c.args.word → P c.types.result.now.declarations (g.H.GcHeap.seen c.heap.result.now) c.unwrap-gc_ref.result
lent g c P p =
    subst (λ (n : TypeTable). P n.declarations (g.H.GcHeap.seen c.heap.result.now) c.unwrap-gc_ref.result) (sym c.types.ensures)
    (subst (λ (h : HeapView). P c.self.inside.owner.seen.types.declarations h c.unwrap-gc_ref.result) (sym c.heap.ensures.seen)
    (subst (λ (w : ℕ). P c.self.inside.owner.seen.types.declarations c.self.inside.owner.seen.heap w) (sym (same_word g (goal.at.After-types g c).After-unwrap-gc_ref)) p))

pub slot_in-slot-requires-clause-has : goal.slot_in-slot-requires-clause-has
slot_in-slot-requires-clause-has g c =
    let types = (goal.at.slot_in-slot-requires-clause-has g c).After-types in
    let at = (goal.at.slot_in-slot-requires-clause-has g c).After-is_ready in
    let lies = spot g at in
    lent g types (λ (ts : List Declaration) (h : HeapView) (w : ℕ). IsHeldWithSlot g.H.GcHeap.KIND ts h w c.args.index)
    (has_slot g.H.GcHeap.KIND (view g at) _ _ _ c.args.word _ c.args.index _ lies (c.is_ready.ensures.can.traced c.args.word lies.object lies.is.held) c.is_ready.ensures.heap)

-- the slot that was found, as the store has it
finds : (g : given.Over) (c : After-slot_in-slot g) → FindsHeldSlot g.H.GcHeap.KIND c.self.inside.owner.seen.types.declarations c.self.inside.owner.seen.heap c.args.word c.args.index c.slot_in-slot.result
finds g c =
    subst (λ (w : ℕ). FindsHeldSlot g.H.GcHeap.KIND c.self.inside.owner.seen.types.declarations c.self.inside.owner.seen.heap w c.args.index c.slot_in-slot.result) (same_word g (goal.at.After-slot_in-slot g c).After-unwrap-gc_ref)
    (subst (λ (h : HeapView). FindsHeldSlot g.H.GcHeap.KIND c.self.inside.owner.seen.types.declarations h c.unwrap-gc_ref.result c.args.index c.slot_in-slot.result) c.heap.ensures.seen
    (subst (λ (n : TypeTable). FindsHeldSlot g.H.GcHeap.KIND n.declarations (g.H.GcHeap.seen c.heap.result.now) c.unwrap-gc_ref.result c.args.index c.slot_in-slot.result) c.types.ensures c.slot_in-slot.ensures))

slot_is : (g : given.Over) (c : After-slot_in-slot g) (t : Table g.row.D.Denot) (place : Placing) (position : ℕ) (o : _) (value : Value)
    (lies : LyingAt g.H.GcHeap.KIND (view g (goal.at.After-slot_in-slot g c).After-is_ready) t place position c.args.word o c.args.index value) → storage_slot c.slot_in-slot.result ≡ lies.lying.slot
slot_is g c t place position o value lies = slot_is_found g.H.GcHeap.KIND (view g (goal.at.After-slot_in-slot g c).After-is_ready) t place position c.args.word o c.args.index value lies c.slot_in-slot.result (finds g c)

pub read_slot-requires-clause-inside : goal.read_slot-requires-clause-inside
read_slot-requires-clause-inside g c =
    let found = (goal.at.read_slot-requires-clause-inside g c).After-slot_in-slot in
    let at = (goal.at.After-slot_in-slot g found).After-is_ready in
    let lies = spot g at in
    subst (λ (h : HeapView). IsReadable g.H.GcHeap.KIND h c.unwrap-gc_ref.result c.slot_in-slot.result.offset (storage_width c.slot_in-slot.result.storage)) (sym c.heap-2.ensures.seen)
    (subst (λ (w : ℕ). IsReadable g.H.GcHeap.KIND c.self.inside.owner.seen.heap w c.slot_in-slot.result.offset (storage_width c.slot_in-slot.result.storage)) (sym (same_word g (goal.at.After-slot_in-slot g found).After-unwrap-gc_ref))
    (subst (λ (x : StorageSlot). IsReadable g.H.GcHeap.KIND c.self.inside.owner.seen.heap c.args.word x.offset (storage_width x.storage)) (sym (slot_is g found _ _ _ _ _ lies))
    (slot_readable g.H.GcHeap.KIND (view g at) _ _ _ c.args.word _ c.args.index _ lies (c.is_ready.ensures.can.traced c.args.word lies.object lies.is.held))))

pub returns : goal.returns
returns g c t place value holds has =
    let found = (goal.at.returns g c).After-slot_in-slot in
    let unwrapped = (goal.at.After-slot_in-slot g found).After-unwrap-gc_ref in
    let at = (goal.at.After-slot_in-slot g found).After-is_ready in
    let form = storage_form c.slot_in-slot.result.storage in
    let width = storage_width c.slot_in-slot.result.storage in
    let before : Holds g.H.GcHeap.KIND (view g at) t place = subst (λ (s : StoreView g.row.D.Denot). Holds g.H.GcHeap.KIND s t place) (sym c.self.view_is) holds in
    let lies = lying_in g.H.GcHeap.KIND (view g at) t place before c.args.word c.args.index value has in
    subst (λ (s : StoreView g.row.D.Denot). FoundStands (naming place s.ids) c.read_slot.result value) c.self.view_is
    (found_stands g.H.GcHeap.KIND (view g at) t place _ c.args.word _ c.args.index value lies c.read_slot.result c.slot_in-slot.result (slot_is g found t place _ _ value lies)
    (subst (λ (w : ℕ). FindsAt g.H.GcHeap.KIND c.self.inside.owner.seen.heap w form width c.slot_in-slot.result.offset c.read_slot.result) (same_word g unwrapped)
    (subst (λ (h : HeapView). FindsAt g.H.GcHeap.KIND h c.unwrap-gc_ref.result form width c.slot_in-slot.result.offset c.read_slot.result) c.heap-2.ensures.seen c.read_slot.ensures.finds))
    (subst (λ (w : ℕ). FitsAt g.H.GcHeap.KIND c.self.inside.owner.seen.heap w form width c.slot_in-slot.result.offset) (same_word g unwrapped)
    (subst (λ (h : HeapView). FitsAt g.H.GcHeap.KIND h c.unwrap-gc_ref.result form width c.slot_in-slot.result.offset) c.heap-2.ensures.seen c.read_slot.ensures.small)))
