use Rattle.std.proofs.Common.{◌≡◌, ℕ, length, Some, Ok, sym, ap, ◌∙◌, subst}
use Rattle.gc_types.specs.Declarations.{TypeTable}
use Rattle.std.specs.FinMap as finite
use Rattle.gc_view.specs.Heaps.{HeapView}
use Rattle.gc_view.specs.Slots.{elements_from}
use Rattle.gc_heap.specs.Access.{IsReadable, data_part}
use Rattle.gc_model.specs.Holds.{HoldsTable}
use Rattle.gc_model.specs.Stores.{StoreView}
use Rattle.gc_store.specs.Roots.{word_of}
use Rattle.gc_store.specs.Bytes.{CanCopyBytes, NamesBytes}
use Rattle.gc_values.specs.HeldSlots.{FindsHeldSlot, IsHeldWithSlot}
use Rattle.gc_store.specs.Stores.{store_view, tables_of}
use Rattle.gc_store.proofs.Roots.{SomeIff-value, SomeIff-some}
use Rattle.gc_store.proofs.CopiedBytes.{BytesAt, bytes_at, bytes_live, first_found, first_held, all_readable, same_length, values_are}
use Rattle.gc_store.proofs.store.Store.copy_bytes.Given as given
use Rattle.gc_store.proofs.store.Store.copy_bytes.Goals as goal
use Rattle.gc_store.proofs.store.Store.copy_bytes.Goals.{In-Ok, After-unwrap-gc_ref, After-types, After-slot_in-first}

-- the store, as it stands inside its invariant
abbrev view : (g : given.Over) (c : In-Ok g) → StoreView g.row.D.Denot
view g c = store_view c.self.inside.id c.self.inside.config (tables_of c.self.inside.interned c.self.inside.asked) c.self.inside.owner.seen c.self.inside.tries

can : (g : given.Over) (c : In-Ok g) → CanCopyBytes g.row.D.Denot g.H.GcHeap.KIND (view g c) c.args.r (length c.args.dst.now)
can g c = subst (λ (s : StoreView g.row.D.Denot). CanCopyBytes g.row.D.Denot g.H.GcHeap.KIND s c.args.r (length c.args.dst.now)) (sym c.self.view_is) c.requires

word_at : (g : given.Over) (c : In-Ok g) → word_of (view g c) c.args.r ≡ Ok c.in-Ok.word
word_at g c = ap (λ (s : StoreView g.row.D.Denot). word_of s c.args.r) c.self.view_is ∙ sym c.word_of.ensures ∙ c.in-Ok.is

-- where the bytes lie, in some table that the store holds
spot : (g : given.Over) (c : In-Ok g) → BytesAt g.H.GcHeap.KIND (view g c) (can g c).table (can g c).holds.0 (can g c).holds.1 c.args.r (can g c).values (can g c).bytes c.in-Ok.word
spot g c = bytes_at g.H.GcHeap.KIND (view g c) (can g c).table (can g c).holds.0 (can g c).holds.1 c.args.r (can g c).values (can g c).bytes c.in-Ok.word (word_at g c)

pub unwrap-gc_ref-requires : goal.unwrap-gc_ref-requires
unwrap-gc_ref-requires g c = SomeIff-some _ c.from_raw_u32.result c.in-Ok.word c.from_raw_u32.ensures (spot g (goal.at.unwrap-gc_ref-requires g c).In-Ok).not_zero

pub unreachable-requires : goal.unreachable-requires
unreachable-requires g c =
    bytes_live g.H.GcHeap.KIND c.args.self.now c.requires.table c.requires.holds.0 c.requires.holds.1 c.args.r c.requires.values c.requires.bytes c.in-Err.field-0 (sym c.word_of.ensures ∙ c.in-Err.is)

-- the reference has the word
same_word : (g : given.Over) (c : After-unwrap-gc_ref g) → c.unwrap-gc_ref.result ≡ c.in-Ok.word
same_word g c = SomeIff-value _ c.from_raw_u32.result c.in-Ok.word c.unwrap-gc_ref.result c.from_raw_u32.ensures c.unwrap-gc_ref.ensures

pub slot_in-first-requires-clause-has : goal.slot_in-first-requires-clause-has
slot_in-first-requires-clause-has g c =
    let types = (goal.at.slot_in-first-requires-clause-has g c).After-types in
    let at = (goal.at.slot_in-first-requires-clause-has g c).In-Ok in
    let lies = spot g at in
    subst (λ (n : TypeTable). IsHeldWithSlot g.H.GcHeap.KIND n.declarations (g.H.GcHeap.seen c.heap.result.now) c.unwrap-gc_ref.result 0) (sym c.types.ensures)
    (subst (λ (h : HeapView). IsHeldWithSlot g.H.GcHeap.KIND c.self.inside.owner.seen.types.declarations h c.unwrap-gc_ref.result 0) (sym c.heap.ensures.seen)
    (subst (λ (w : ℕ). IsHeldWithSlot g.H.GcHeap.KIND c.self.inside.owner.seen.types.declarations c.self.inside.owner.seen.heap w 0) (sym (same_word g (goal.at.After-types g types).After-unwrap-gc_ref))
    (first_held g.H.GcHeap.KIND (view g at) _ _ (can g at).holds.1 c.args.r _ (can g at).bytes c.in-Ok.word lies (c.is_ready.ensures.can.traced c.in-Ok.word lies.object lies.is.held) c.is_ready.ensures.heap)))

-- the slot that was found, as the store has it
finds : (g : given.Over) (c : After-slot_in-first g) → FindsHeldSlot g.H.GcHeap.KIND c.self.inside.owner.seen.types.declarations c.self.inside.owner.seen.heap c.in-Ok.word 0 c.slot_in-first.result
finds g c =
    subst (λ (w : ℕ). FindsHeldSlot g.H.GcHeap.KIND c.self.inside.owner.seen.types.declarations c.self.inside.owner.seen.heap w 0 c.slot_in-first.result) (same_word g (goal.at.After-slot_in-first g c).After-unwrap-gc_ref)
    (subst (λ (h : HeapView). FindsHeldSlot g.H.GcHeap.KIND c.self.inside.owner.seen.types.declarations h c.unwrap-gc_ref.result 0 c.slot_in-first.result) c.heap.ensures.seen
    (subst (λ (n : TypeTable). FindsHeldSlot g.H.GcHeap.KIND n.declarations (g.H.GcHeap.seen c.heap.result.now) c.unwrap-gc_ref.result 0 c.slot_in-first.result) c.types.ensures c.slot_in-first.ensures))

-- the bytes begin there
first_of : (g : given.Over) (c : After-slot_in-first g) → c.slot_in-first.result.offset ≡ elements_from g.H.GcHeap.KIND (can g (goal.at.After-slot_in-first g c).In-Ok).bytes.element
first_of g c =
    let at = (goal.at.After-slot_in-first g c).In-Ok in
    first_found g.H.GcHeap.KIND (view g at) _ _ (can g at).holds.1 c.args.r _ (can g at).bytes c.in-Ok.word (spot g at) c.slot_in-first.result (finds g c)

pub copy_data-requires-clause-inside : goal.copy_data-requires-clause-inside
copy_data-requires-clause-inside g c =
    let found = (goal.at.copy_data-requires-clause-inside g c).After-slot_in-first in
    let at = (goal.at.After-slot_in-first g found).In-Ok in
    let lies = spot g at in
    let there = all_readable g.H.GcHeap.KIND (view g at) _ _ (can g at).holds.1 c.args.r _ (can g at).bytes c.in-Ok.word lies (c.is_ready.ensures.can.traced c.in-Ok.word lies.object lies.is.held) c.is_ready.ensures.heap in
    subst (IsReadable g.H.GcHeap.KIND (g.H.GcHeap.seen c.heap-in-Ok.result.now) c.unwrap-gc_ref.result c.slot_in-first.result.offset) (can g at).same_count
    (subst (λ (from : ℕ). IsReadable g.H.GcHeap.KIND (g.H.GcHeap.seen c.heap-in-Ok.result.now) c.unwrap-gc_ref.result from (length (can g at).values)) (sym (first_of g found))
    (subst (λ (w : ℕ). IsReadable g.H.GcHeap.KIND (g.H.GcHeap.seen c.heap-in-Ok.result.now) w (elements_from g.H.GcHeap.KIND (can g at).bytes.element) (length (can g at).values)) (sym (same_word g (goal.at.After-slot_in-first g found).After-unwrap-gc_ref))
    (subst (λ (h : HeapView). IsReadable g.H.GcHeap.KIND h c.in-Ok.word (elements_from g.H.GcHeap.KIND (can g at).bytes.element) (length (can g at).values)) (sym c.heap-in-Ok.ensures.seen) there)))

pub returns : goal.returns
returns g c t holds values b =
    let found = (goal.at.returns g c).After-slot_in-first in
    let at = (goal.at.After-slot_in-first g found).In-Ok in
    let held_table = subst (λ (s : StoreView g.row.D.Denot). HoldsTable g.H.GcHeap.KIND s t) (sym c.self.view_is) holds in
    let bytes = subst (λ (s : StoreView g.row.D.Denot). NamesBytes s t c.args.r values) (sym c.self.view_is) b in
    let lies = bytes_at g.H.GcHeap.KIND (view g at) t held_table.0 held_table.1 c.args.r values bytes c.in-Ok.word (word_at g at) in
    let traced = c.is_ready.ensures.can.traced c.in-Ok.word lies.object lies.is.held in
    let held =
    subst (λ (w : ℕ). finite.get (g.H.GcHeap.seen c.heap-in-Ok.result.now).content w ≡ Some lies.object) (sym (same_word g (goal.at.After-slot_in-first g found).After-unwrap-gc_ref))
    (subst (λ (h : HeapView). finite.get h.content c.in-Ok.word ≡ Some lies.object) (sym c.heap-in-Ok.ensures.seen) lies.is.held) in
    let from = first_found g.H.GcHeap.KIND (view g at) t held_table.0 held_table.1 c.args.r values bytes c.in-Ok.word lies c.slot_in-first.result (finds g found) in
    let long : length c.args.dst.now ≡ length values =
    sym (can g at).same_count ∙ same_length g.H.GcHeap.KIND (view g at) (can g at).table (can g at).holds.0 (can g at).holds.1 c.args.r (can g at).values (can g at).bytes c.in-Ok.word (spot g at) t held_table.0 held_table.1 values bytes lies in
    values_are g.H.GcHeap.KIND (view g at) t held_table.0 held_table.1 c.args.r values bytes c.in-Ok.word lies traced c.is_ready.ensures.heap c.copy_data.new.dst
    (c.copy_data.ensures lies.object held ∙ ap (λ (n : ℕ). data_part g.H.GcHeap.KIND lies.object c.slot_in-first.result.offset n) long ∙ ap (λ (n : ℕ). data_part g.H.GcHeap.KIND lies.object n (length values)) from)
