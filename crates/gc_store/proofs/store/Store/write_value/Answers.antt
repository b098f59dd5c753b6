use Rattle.std.proofs.Common.{◌≡◌, ℕ, List, [], ◌∷◌, Result, Ok, Err, Some, sym, ap, ◌∙◌, subst, arith}
use Rattle.std.specs.FinMap as finite
use Rattle.gc_types.specs.Declarations.{TypeTable, Declaration}
use Rattle.gc_view.specs.Heaps.{HeapObject, HeapView}
use Rattle.gc_heap.specs.Heap.{put_object, with_data}
use Rattle.gc_values.specs.Words.{HandleRoots, handle_roots, AreOwnedRising}
use Rattle.gc_owner.specs.Owners.{OwnerView}
use Rattle.gc_model.specs.Accounts.{Account, HoldsAccount}
use Rattle.gc_model.specs.Stored.{stored}
use Rattle.gc_model.specs.Table.{Table, write}
use Rattle.gc_model.specs.Stores.{StoreView}
use Rattle.gc_model.specs.Holds.{InternedIds}
use Rattle.gc_values.specs.Filling.{slot_bytes}
use Rattle.gc_values.specs.Kept.{kept_code, KeptAs, CanBeKept}
use Rattle.gc_values.specs.HeldSlots.{FindsHeldSlot, IsHeldWithSlot}
use Rattle.gc_store.specs.Roots.{word_of}
use Rattle.gc_store.specs.Values.{CanWrite, KeepsValue, WritesValue}
use Rattle.gc_values.specs.RawValues.{raw_side_values}
use Rattle.gc_values.specs.declared.faults.WriteFault.{WriteFault}
use Rattle.gc_store.proofs.PlacingIds.{refused_value}
use Rattle.gc_store.proofs.SameRoots.{same_err}
use Rattle.gc_store.specs.Stores.{IsSoundStore, store_view, tables_by, tables_of}
use Rattle.gc_values.specs.Interning.{ids_of, HaveAllIdsLeft, InternsAll}
use Rattle.gc_values.proofs.EachValue.{are_words, kept_of_form}
use Rattle.gc_values.proofs.GivenValues.{given_refused}
use Rattle.gc_store.proofs.StandingValues.{within_ids}
use Rattle.gc_values.proofs.Keeping.{counts_of}
use Rattle.gc_store.proofs.Roots.{SomeIff-value, SomeIff-some}
use Rattle.gc_store.proofs.LyingAt.{value_live, has_slot}
use Rattle.gc_store.proofs.WritingAt.{spot, spot_slot, spot_form, spot_kept, keeps_value, some_written}
use Rattle.gc_store.proofs.store.Store.write_value.Given as given
use Rattle.gc_store.proofs.store.Store.write_value.Goals as goal
use Rattle.gc_store.proofs.store.Store.write_value.Goals.{In-Ok, After-unwrap-gc_ref, After-types, After-slot_in-slot, After-stored_value-stored, After-write_slot}

-- the store's view, by its parts
abbrev view : (g : given.Over) (c : In-Ok g) → StoreView g.row.D.Denot
view g c = store_view c.self.inside.id c.self.inside.config (tables_of c.self.inside.interned c.self.inside.asked) c.self.inside.owner.seen c.self.inside.tries

can : (g : given.Over) (c : In-Ok g) → CanWrite g.row.D.Denot g.H.GcHeap.KIND (view g c) c.args.handle c.args.index c.args.value
can g c = subst (λ (s : StoreView g.row.D.Denot). CanWrite g.row.D.Denot g.H.GcHeap.KIND s c.args.handle c.args.index c.args.value) (sym c.self.view_is) c.requires

word_at : (g : given.Over) (c : In-Ok g) → word_of (view g c) c.args.handle ≡ Ok c.in-Ok.word
word_at g c = ap (λ (s : StoreView g.row.D.Denot). word_of s c.args.handle) c.self.view_is ∙ sym c.word_of.ensures ∙ c.in-Ok.is

pub unwrap-gc_ref-requires : goal.unwrap-gc_ref-requires
unwrap-gc_ref-requires g c =
    let at = (goal.at.unwrap-gc_ref-requires g c).In-Ok in
    SomeIff-some _ c.from_raw_u32.result c.in-Ok.word c.from_raw_u32.ensures (spot _ _ (view g at) c.args.handle c.args.index c.args.value (can g at) c.in-Ok.word (word_at g at)).not_zero

pub unreachable-requires : goal.unreachable-requires
unreachable-requires g c =
    value_live g.H.GcHeap.KIND c.args.self.now c.requires.table c.requires.holds.0 c.requires.holds.1 c.args.handle c.args.index c.requires.before c.requires.has c.in-Err.field-0 (sym c.word_of.ensures ∙ c.in-Err.is)

-- the reference has the word
same_word : (g : given.Over) (c : After-unwrap-gc_ref g) → c.unwrap-gc_ref.result ≡ c.in-Ok.word
same_word g c = SomeIff-value _ c.from_raw_u32.result c.in-Ok.word c.unwrap-gc_ref.result c.from_raw_u32.ensures c.unwrap-gc_ref.ensures

-- what the owner lends is what it has
lent : (g : given.Over) (c : After-types g) → (P : List Declaration → HeapView → ℕ → Type 0) → P c.self.inside.owner.seen.types.declarations c.self.inside.owner.seen.heap c.in-Ok.word → P c.types.result.now.declarations (g.H.GcHeap.seen c.heap.result.now) c.unwrap-gc_ref.result
lent g c P p =
    subst (λ (n : TypeTable). P n.declarations (g.H.GcHeap.seen c.heap.result.now) c.unwrap-gc_ref.result) (sym c.types.ensures)
    (subst (λ (h : HeapView). P c.self.inside.owner.seen.types.declarations h c.unwrap-gc_ref.result) (sym c.heap.ensures.seen)
    (subst (λ (w : ℕ). P c.self.inside.owner.seen.types.declarations c.self.inside.owner.seen.heap w) (sym (same_word g (goal.at.After-types g c).After-unwrap-gc_ref)) p))

pub slot_in-slot-requires-clause-has : goal.slot_in-slot-requires-clause-has
slot_in-slot-requires-clause-has g c =
    let types = (goal.at.slot_in-slot-requires-clause-has g c).After-types in
    let at = (goal.at.slot_in-slot-requires-clause-has g c).In-Ok in
    let lies = spot _ _ (view g at) c.args.handle c.args.index c.args.value (can g at) c.in-Ok.word (word_at g at) in
    lent g types (λ (ts : List Declaration) (h : HeapView) (w : ℕ). IsHeldWithSlot g.H.GcHeap.KIND ts h w c.args.index)
    (has_slot g.H.GcHeap.KIND (view g at) _ _ _ c.in-Ok.word _ c.args.index _ lies (c.is_ready.ensures.can.traced c.in-Ok.word lies.object lies.is.held) c.is_ready.ensures.heap)

-- the slot that was found, as the store has it
finds : (g : given.Over) (c : After-slot_in-slot g) → FindsHeldSlot g.H.GcHeap.KIND c.self.inside.owner.seen.types.declarations c.self.inside.owner.seen.heap c.in-Ok.word c.args.index c.slot_in-slot.result
finds g c =
    subst (λ (w : ℕ). FindsHeldSlot g.H.GcHeap.KIND c.self.inside.owner.seen.types.declarations c.self.inside.owner.seen.heap w c.args.index c.slot_in-slot.result) (same_word g (goal.at.After-slot_in-slot g c).After-unwrap-gc_ref)
    (subst (λ (h : HeapView). FindsHeldSlot g.H.GcHeap.KIND c.self.inside.owner.seen.types.declarations h c.unwrap-gc_ref.result c.args.index c.slot_in-slot.result) c.heap.ensures.seen
    (subst (λ (n : TypeTable). FindsHeldSlot g.H.GcHeap.KIND n.declarations (g.H.GcHeap.seen c.heap.result.now) c.unwrap-gc_ref.result c.args.index c.slot_in-slot.result) c.types.ensures c.slot_in-slot.ensures))

-- a function value or a continuation that is given has an id
interned : (g : given.Over) (c : After-slot_in-slot g) → InternsAll (ids_of c.self.inside.interned) (ids_of c.intern_given.new.interned) (raw_side_values (c.args.value ∷ []))
interned g c = c.in_ok-intern_given-in-Ok.ensures.interns.0

pub stored_value-stored-requires-clause-rising : goal.stored_value-stored-requires-clause-rising
stored_value-stored-requires-clause-rising g c = subst AreOwnedRising (sym c.owned.ensures) c.self.invariant.holds.holds.owned.rising

pub stored_value-stored-requires-clause-kept : goal.stored_value-stored-requires-clause-kept
stored_value-stored-requires-clause-kept g c =
    let slot = (goal.at.stored_value-stored-requires-clause-kept g c).After-slot_in-slot in
    let at = (goal.at.After-slot_in-slot g slot).In-Ok in
    let same : record { scoped = c.scoped.result.now; owned = c.owned.result.now } ≡ handle_roots c.self.inside.owner.seen.roots = λ i. record { scoped = c.scoped.ensures i; owned = c.owned.ensures i } in
    subst (λ (es : HandleRoots). CanBeKept (ids_of c.intern_given.new.interned) es c.args.value) (sym same)
    (spot_kept _ _ (view g at) c.args.handle c.args.index c.args.value (can g at) c.in-Ok.word (word_at g at) c.slot_in-slot.result (finds g slot) (ids_of c.intern_given.new.interned) (interned g slot))

kept_is : (g : given.Over) (c : After-stored_value-stored g) → KeptAs (ids_of c.intern_given.new.interned) (handle_roots c.self.inside.owner.seen.roots) c.args.value c.stored_value-stored.result
kept_is g c =
    let same : record { scoped = c.scoped.result.now; owned = c.owned.result.now } ≡ handle_roots c.self.inside.owner.seen.roots = λ i. record { scoped = c.scoped.ensures i; owned = c.owned.ensures i } in
    subst (λ (es : HandleRoots). KeptAs (ids_of c.intern_given.new.interned) es c.args.value c.stored_value-stored.result) same c.stored_value-stored.ensures.kept

pub write_slot-requires-clause-idle : goal.write_slot-requires-clause-idle
write_slot-requires-clause-idle g c = c.self.invariant.idle

pub write_slot-requires-clause-can : goal.write_slot-requires-clause-can
write_slot-requires-clause-can g c =
    let stored = (goal.at.write_slot-requires-clause-can g c).After-stored_value-stored in
    let slot = (goal.at.After-stored_value-stored g stored).After-slot_in-slot in
    let at = (goal.at.After-slot_in-slot g slot).In-Ok in
    let lies = spot _ _ (view g at) c.args.handle c.args.index c.args.value (can g at) c.in-Ok.word (word_at g at) in
    let heap = c.self.inside.owner.seen.heap in
    record {
      object = lies.object;
      shape = lies.shape;
      count = lies.count;
      is = record {
        held = ap (finite.get heap.content) (same_word g (goal.at.After-slot_in-slot g slot).After-unwrap-gc_ref) ∙ lies.is.held;
        declared = lies.is.declared;
        has = lies.is.has;
      };
      index = c.args.index;
      slot_is = lies.slot_is ∙ ap Some (sym (spot_slot _ _ (view g at) c.args.handle c.args.index c.args.value (can g at) c.in-Ok.word (word_at g at) c.slot_in-slot.result (finds g slot)));
      of_form = kept_of_form heap (ids_of c.intern_given.new.interned) (handle_roots c.self.inside.owner.seen.roots) c.slot_in-slot.result.storage c.args.value c.stored_value-stored.result
          (are_words g.H.GcHeap.KIND c.self.inside.owner.seen c.is_ready.ensures.can)
          (spot_form _ _ (view g at) c.args.handle c.args.index c.args.value (can g at) c.in-Ok.word (word_at g at) c.slot_in-slot.result (finds g slot))
          (kept_is g stored);
    }

-- the owner has the new bytes
written : (g : given.Over) (c : After-write_slot g) (object : HeapObject) → finite.get c.self.inside.owner.seen.heap.content c.in-Ok.word ≡ Some object
    → c.write_slot.new.owner.seen ≡ record c.self.inside.owner.seen { heap = record (put_object c.self.inside.owner.seen.heap c.in-Ok.word (with_data g.H.GcHeap.KIND object c.slot_in-slot.result.offset (slot_bytes c.slot_in-slot.result.storage (kept_code c.stored_value-stored.result)))) { counts = c.write_slot.new.owner.seen.heap.counts } }
written g c object held =
    let stored = (goal.at.After-write_slot g c).After-stored_value-stored in
    let slot = (goal.at.After-stored_value-stored g stored).After-slot_in-slot in
    let same = same_word g (goal.at.After-slot_in-slot g slot).After-unwrap-gc_ref in
    c.write_slot.ensures object (ap (finite.get c.self.inside.owner.seen.heap.content) same ∙ held)
    ∙ ap (λ (w : ℕ). record c.self.inside.owner.seen { heap = record (put_object c.self.inside.owner.seen.heap w (with_data g.H.GcHeap.KIND object c.slot_in-slot.result.offset (slot_bytes c.slot_in-slot.result.storage (kept_code c.stored_value-stored.result)))) { counts = c.write_slot.new.owner.seen.heap.counts } }) same

heap_written : (g : given.Over) (c : After-write_slot g) (object : HeapObject) → finite.get c.self.inside.owner.seen.heap.content c.in-Ok.word ≡ Some object
    → c.write_slot.new.owner.seen.heap ≡ record (put_object c.self.inside.owner.seen.heap c.in-Ok.word (with_data g.H.GcHeap.KIND object c.slot_in-slot.result.offset (slot_bytes c.slot_in-slot.result.storage (kept_code c.stored_value-stored.result)))) { counts = c.write_slot.new.owner.seen.heap.counts }
heap_written g c object held = ap (λ (v : OwnerView g.row.D.Denot). v.heap) (written g c object held)

-- nothing but the heap changed
rest_is : (g : given.Over) (c : After-write_slot g) → c.write_slot.new.owner.seen ≡ record c.self.inside.owner.seen { heap = c.write_slot.new.owner.seen.heap }
rest_is g c =
    let stored = (goal.at.After-write_slot g c).After-stored_value-stored in
    let slot = (goal.at.After-stored_value-stored g stored).After-slot_in-slot in
    let at = (goal.at.After-slot_in-slot g slot).In-Ok in
    let lies = spot _ _ (view g at) c.args.handle c.args.index c.args.value (can g at) c.in-Ok.word (word_at g at) in
    let e = written g c lies.object lies.is.held in
    e ∙ ap (λ (h : HeapView). record c.self.inside.owner.seen { heap = h }) (sym (ap (λ (v : OwnerView g.row.D.Denot). v.heap) e))

abbrev later : (g : given.Over) (c : After-write_slot g) → StoreView g.row.D.Denot
later g c = store_view c.self.inside.id c.self.inside.config (tables_of c.intern_given.new.interned c.self.inside.asked) c.write_slot.new.owner.seen c.self.inside.tries

abbrev at_of : (g : given.Over) (c : After-write_slot g) → In-Ok g
at_of g c = (goal.at.After-slot_in-slot g (goal.at.After-stored_value-stored g (goal.at.After-write_slot g c).After-stored_value-stored).After-slot_in-slot).In-Ok

later_is : (g : given.Over) (c : After-write_slot g) → later g c ≡ record (view g (at_of g c)) { heap = c.write_slot.new.owner.seen.heap; ids = (ids_of c.intern_given.new.interned) }
later_is g c = ap (λ (v : OwnerView g.row.D.Denot). store_view c.self.inside.id c.self.inside.config (tables_of c.intern_given.new.interned c.self.inside.asked) v c.self.inside.tries) (rest_is g c)

pub invariant_of-self : goal.invariant_of-self
invariant_of-self g c =
    let same = given_refused (ids_of c.self.inside.interned) (ids_of c.intern_given.new.interned) (raw_side_values (c.args.value ∷ [])) c.in_err-intern_given-in-Ok.field-0.0 c.in_err-intern_given-in-Ok.ensures.interns in
    subst (λ (ids : InternedIds). IsSoundStore g.row.D.Denot g.H.GcHeap.KIND c.self.inside.slot_counts.items c.self.inside.owner.seen (store_view c.self.inside.id c.self.inside.config (tables_by ids c.self.inside.asked) c.self.inside.owner.seen c.self.inside.tries)) (sym same) c.self.invariant

pub invariant_of-self-in-Ok : goal.invariant_of-self-in-Ok
invariant_of-self-in-Ok g c =
    let after = (goal.at.invariant_of-self-in-Ok g c).After-write_slot in
    let stored = (goal.at.After-write_slot g after).After-stored_value-stored in
    let slot = (goal.at.After-stored_value-stored g stored).After-slot_in-slot in
    let at = (goal.at.After-slot_in-slot g slot).In-Ok in
    let some = some_written g.row.D.Denot g.H.GcHeap.KIND (view g at) c.args.handle c.args.index c.args.value (can g at) c.in-Ok.word (word_at g at) c.slot_in-slot.result (finds g slot) (ids_of c.intern_given.new.interned) (interned g slot) c.write_slot.new.owner.seen.heap c.stored_value-stored.result (kept_is g stored) c.stored_value-stored.ensures.small (heap_written g after) in
    record {
      idle = ap (λ (v : OwnerView g.row.D.Denot). v.idle) (rest_is g after) ∙ c.self.invariant.idle;
      engine = ap (λ (v : OwnerView g.row.D.Denot). v.types.engine) (rest_is g after) ∙ c.self.invariant.engine;
      number = ap (λ (v : OwnerView g.row.D.Denot). v.types.number) (rest_is g after) ∙ c.self.invariant.number;
      frames = c.self.invariant.frames ∙ ap counts_of (sym (rest_is g after));
      table = some.0;
      account = some.1.0;
      holds = subst (λ (s : StoreView g.row.D.Denot). HoldsAccount g.H.GcHeap.KIND s some.0 some.1.0) (sym (later_is g after)) some.1.1;
    }

pub returns-in_err-intern_given-in-Ok-clause-writes : goal.returns-in_err-intern_given-in-Ok-clause-writes
returns-in_err-intern_given-in-Ok-clause-writes g c t a holds =
    let at = (goal.at.returns-in_err-intern_given-in-Ok-clause-writes g c).In-Ok in
    let fault : WriteFault = c.in_err-intern_given-in-Ok.field-0.0 in
    let after : StoreView g.row.D.Denot = store_view c.self.inside.id c.self.inside.config (tables_of c.intern_given.new.interned c.self.inside.asked) c.self.inside.owner.seen c.self.inside.tries in
    subst (λ (r : Result (Unit {0}) WriteFault). WritesValue g.H.GcHeap.KIND c.args.self.now after t a c.args.handle c.args.index c.args.value r)
    (sym (same_err c.from_residual.result fault c.from_residual.ensures.1))
    (subst (λ (s : StoreView g.row.D.Denot). WritesValue g.H.GcHeap.KIND s after t a c.args.handle c.args.index c.args.value (Err fault)) c.self.view_is
    (refused_value g.H.GcHeap.KIND (view g at) t a (subst (λ (s : StoreView g.row.D.Denot). HoldsAccount g.H.GcHeap.KIND s t a) (sym c.self.view_is) holds) c.args.handle c.args.index c.args.value
    (ids_of c.intern_given.new.interned) fault c.in_err-intern_given-in-Ok.ensures.interns))

pub returns-clause-writes : goal.returns-clause-writes
returns-clause-writes g c t a holds =
    let after = (goal.at.returns-clause-writes g c).After-write_slot in
    let kept = (goal.at.After-write_slot g after).After-stored_value-stored in
    let slot = (goal.at.After-stored_value-stored g kept).After-slot_in-slot in
    let at = (goal.at.After-slot_in-slot g slot).In-Ok in
    let later_store : StoreView g.row.D.Denot = record (view g at) { heap = c.write_slot.new.owner.seen.heap; ids = (ids_of c.intern_given.new.interned) } in
    let keeps : (t : Table g.row.D.Denot) (a : Account) → HoldsAccount g.H.GcHeap.KIND c.args.self.now t a → KeepsValue g.H.GcHeap.KIND c.args.self.now later_store t a c.args.handle c.args.index c.args.value =
    subst (λ (s : StoreView g.row.D.Denot). (t : Table g.row.D.Denot) (a : Account) → HoldsAccount g.H.GcHeap.KIND s t a → KeepsValue g.H.GcHeap.KIND s later_store t a c.args.handle c.args.index c.args.value) c.self.view_is
    (keeps_value g.row.D.Denot g.H.GcHeap.KIND (view g at) c.args.handle c.args.index c.args.value (can g at) c.in-Ok.word (word_at g at) c.slot_in-slot.result (finds g slot) (ids_of c.intern_given.new.interned) (interned g slot) c.write_slot.new.owner.seen.heap c.stored_value-stored.result (kept_is g kept) c.stored_value-stored.ensures.small (heap_written g after)) in (
      λ before v has field field_is stands.
          subst (λ (s : StoreView g.row.D.Denot). HoldsAccount g.H.GcHeap.KIND s (write has.position c.args.index (stored field.element_type v) t) a) (sym (later_is g after))
          (keeps t a holds before v has field field_is stands),
      within_ids c.args.self.now t c.args.value holds.holds.interned
          (subst (λ (s : StoreView g.row.D.Denot). HaveAllIdsLeft s.ids (raw_side_values (c.args.value ∷ []))) c.self.view_is c.in_ok-intern_given-in-Ok.ensures.interns.1),
    )

pub returns-clause-spare : goal.returns-clause-spare
returns-clause-spare g c =
    let at = (goal.at.returns-clause-spare g c).After-write_slot in
    let same = ap (λ (v : OwnerView g.row.D.Denot). v.roots.spare) (rest_is g at) in
    let was = ap (λ (s : StoreView g.row.D.Denot). s.spare) c.self.view_is in
    omega (arith, same, was)
