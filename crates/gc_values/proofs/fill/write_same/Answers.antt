use Rattle.std.proofs.Common.{◌≡◌, ℕ, ◌<◌, sym, subst, arith}
use Rattle.gc_types.specs.declared.kind.Layouts.{Layouts}
use Rattle.gc_types.specs.Declarations.{Shape}
use Rattle.gc_values.specs.Words.{HandleRoots, handle_roots, AreOwnedRising}
use Rattle.gc_view.specs.Heaps.{HeapObject}
use Rattle.gc_view.specs.Slots.{StorageSlot}
use Rattle.gc_values.specs.Kept.{KeptAs, CanBeKept}
use Rattle.gc_values.specs.HeldSlots.{storage_slot, HasShapeSlot, FindsShapeSlot, HasStorageSlot}
use Rattle.gc_values.specs.Filling.{SameFits, IsToFill, AreElements, FillsAll}
use Rattle.gc_values.proofs.ShapeSlots.{has_shape_slot, finds_slot}
use Rattle.gc_values.proofs.Filled.{first, none_filled, has_first, first_found, are_elements, same_filled}
use Rattle.gc_values.proofs.fill.write_same.Given.{Over}
use Rattle.gc_values.proofs.fill.write_same.Goals.{After-is_ready, After-stored_value-stored}
use Rattle.gc_values.specs.Interning.{ids_of}
use Rattle.gc_values.proofs.fill.write_same.Goals as goal

pub returns-then-count-eq0 : goal.returns-then-count-eq0
returns-then-count-eq0 g c = λ object shape n f. none_filled g.H.GcHeap.KIND c.args.owner.now.seen c.args.gc_ref.now c.args.ty.now.index (ids_of c.args.interned.now) c.args.value c.args.count object shape n f c.if-count-eq0.true

some : (g : Over) (c : After-is_ready g) → 0 < c.args.count
some g c = omega (arith, c.if-count-eq0.false)

has : (g : Over) (c : After-is_ready g) → HasStorageSlot g.H.GcHeap.KIND c.args.owner.now.seen.types.declarations c.args.ty.now.index 0
has g c =
    let can = c.requires.can in
    has_first g.H.GcHeap.KIND c.args.owner.now.seen c.args.gc_ref.now c.args.ty.now.index (ids_of c.args.interned.now) c.args.value c.args.count can.object can.shape can.count can.to_fill (some g c) c.is_ready.ensures.can c.is_ready.ensures.heap

pub slot_at-first-requires : goal.slot_at-first-requires
slot_at-first-requires g c =
    let at = (goal.at.slot_at-first-requires g c).After-is_ready in
    subst (λ (k : Layouts). HasShapeSlot k c.args.ty.now.shape.now 0) (sym c.KIND.ensures)
    (has_shape_slot g.H.GcHeap.KIND c.args.owner.now.seen.types.declarations c.args.ty.now.index 0 c.args.ty.now.shape.now c.requires.listed (has g at))

pub stored_value-stored-requires-clause-rising : goal.stored_value-stored-requires-clause-rising
stored_value-stored-requires-clause-rising g c = subst AreOwnedRising (sym c.owned.ensures) c.requires.can.to_fill.rising

pub stored_value-stored-requires-clause-kept : goal.stored_value-stored-requires-clause-kept
stored_value-stored-requires-clause-kept g c =
    let at = (goal.at.stored_value-stored-requires-clause-kept g c).After-is_ready in
    let same : record { scoped = c.scoped.result.now; owned = c.owned.result.now } ≡ handle_roots c.args.owner.now.seen.roots = λ i. record { scoped = c.scoped.ensures i; owned = c.owned.ensures i } in
    subst (λ (es : HandleRoots). CanBeKept (ids_of c.args.interned.now) es c.args.value) (sym same) (c.requires.can.to_fill.fit.kept (some g at))

-- the slot is that of the first element, as any fields are said to be
slot_is : (g : Over) (c : After-stored_value-stored g) (object : HeapObject) (shape : Shape) (n : ℕ) (f : IsToFill g.H.GcHeap.KIND c.args.owner.now.seen c.args.gc_ref.now c.args.ty.now.index (SameFits (ids_of c.args.interned.now) c.args.value c.args.count) object shape n)
    → storage_slot c.slot_at-first.result
    ≡ first g.H.GcHeap.KIND c.args.owner.now.seen c.args.gc_ref.now c.args.ty.now.index (ids_of c.args.interned.now) c.args.value c.args.count object shape n f (some g (goal.at.After-stored_value-stored g c).After-is_ready) c.is_ready.ensures.can
slot_is g c object shape n f =
    first_found g.H.GcHeap.KIND c.args.owner.now.seen c.args.gc_ref.now c.args.ty.now.index (ids_of c.args.interned.now) c.args.value c.args.count object shape n f (some g (goal.at.After-stored_value-stored g c).After-is_ready) c.is_ready.ensures.can c.slot_at-first.result
    (finds_slot g.H.GcHeap.KIND c.args.owner.now.seen.types.declarations c.args.ty.now.index 0 c.args.ty.now.shape.now c.requires.listed c.slot_at-first.result
    (subst (λ (k : Layouts). FindsShapeSlot k c.args.ty.now.shape.now 0 c.slot_at-first.result) c.KIND.ensures c.slot_at-first.ensures))

kept_is : (g : Over) (c : After-stored_value-stored g) → KeptAs (ids_of c.args.interned.now) (handle_roots c.args.owner.now.seen.roots) c.args.value c.stored_value-stored.result
kept_is g c =
    let same : record { scoped = c.scoped.result.now; owned = c.owned.result.now } ≡ handle_roots c.args.owner.now.seen.roots = λ i. record { scoped = c.scoped.ensures i; owned = c.owned.ensures i } in
    subst (λ (es : HandleRoots). KeptAs (ids_of c.args.interned.now) es c.args.value c.stored_value-stored.result) same c.stored_value-stored.ensures.kept

pub write_elements-requires-clause-can : goal.write_elements-requires-clause-can
write_elements-requires-clause-can g c =
    let at = (goal.at.write_elements-requires-clause-can g c).After-is_ready in
    let stored = (goal.at.write_elements-requires-clause-can g c).After-stored_value-stored in
    let can = c.requires.can in
    subst (λ (s : StorageSlot). AreElements g.H.GcHeap.KIND c.args.owner.now.seen c.args.gc_ref.now s c.args.count c.stored_value-stored.result) (sym (slot_is g stored can.object can.shape can.count can.to_fill))
    (are_elements g.H.GcHeap.KIND c.args.owner.now.seen c.args.gc_ref.now c.args.ty.now.index (ids_of c.args.interned.now) c.args.value c.args.count can.object can.shape can.count can.to_fill (some g at) c.is_ready.ensures.can c.stored_value-stored.result (kept_is g stored))

pub returns : goal.returns
returns g c = λ object shape n f.
    let at = (goal.at.returns g c).After-is_ready in
    let stored = (goal.at.returns g c).After-stored_value-stored in
    let fills = subst (λ (s : StorageSlot). FillsAll g.H.GcHeap.KIND c.args.owner.now.seen c.write_elements.new.owner.seen c.args.gc_ref.now s c.args.count c.stored_value-stored.result) (slot_is g stored object shape n f) c.write_elements.ensures in
    same_filled g.H.GcHeap.KIND c.args.owner.now.seen c.args.gc_ref.now c.args.ty.now.index (ids_of c.args.interned.now) c.args.value c.args.count object shape n f (some g at) c.is_ready.ensures.can c.stored_value-stored.result (kept_is g stored)
    c.write_elements.new.owner.seen c.stored_value-stored.ensures.small
    (fills (are_elements g.H.GcHeap.KIND c.args.owner.now.seen c.args.gc_ref.now c.args.ty.now.index (ids_of c.args.interned.now) c.args.value c.args.count object shape n f (some g at) c.is_ready.ensures.can c.stored_value-stored.result (kept_is g stored)))
