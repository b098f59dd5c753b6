use Rattle.std.proofs.Common.{◌≡◌, ◌≢◌, ℕ, ◌<◌, length, sym, subst, arith}
use Rattle.std.proofs.lemmas.Bool.{eqb-true, eqb-false}
use Rattle.gc_types.specs.declared.kind.Layouts.{Layouts}
use Rattle.gc_types.specs.Declarations.{Shape}
use Rattle.gc_view.specs.Heaps.{HeapObject}
use Rattle.gc_owner.specs.Writes.{IsNumberPlace, WritesBytes}
use Rattle.gc_values.specs.HeldSlots.{HasShapeSlot, FindsShapeSlot}
use Rattle.gc_values.specs.Filling.{BytesFit, IsToFill}
use Rattle.gc_values.proofs.ShapeSlots.{has_shape_slot, finds_slot}
use Rattle.gc_values.proofs.Filled.{no_bytes_filled, has_byte, byte_found, bytes_go, bytes_filled}
use Rattle.gc_values.proofs.fill.write_bytes.Given.{Over}
use Rattle.gc_values.proofs.fill.write_bytes.Goals.{After-is_ready, After-slot_at-first}
use Rattle.gc_values.proofs.fill.write_bytes.Goals as goal

pub returns-then-is_empty : goal.returns-then-is_empty
returns-then-is_empty g c = λ object shape n f.
    no_bytes_filled g.H.GcHeap.KIND c.args.owner.now.seen c.args.gc_ref.now c.args.ty.now.index c.args.bytes.now object shape n f (eqb-true (length c.args.bytes.now) 0 (sym c.if-is_empty.ensures))

some : (g : Over) (c : After-is_ready g) → 0 < length c.args.bytes.now
some g c = let not_none : length c.args.bytes.now ≢ 0 = eqb-false (length c.args.bytes.now) 0 (sym c.if-is_empty.ensures) in omega arith

pub slot_at-first-requires : goal.slot_at-first-requires
slot_at-first-requires g c =
    let at = (goal.at.slot_at-first-requires g c).After-is_ready in
    let can = c.requires.can in
    subst (λ (k : Layouts). HasShapeSlot k c.args.ty.now.shape.now 0) (sym c.KIND.ensures)
    (has_shape_slot g.H.GcHeap.KIND c.args.owner.now.seen.types.declarations c.args.ty.now.index 0 c.args.ty.now.shape.now c.requires.listed
    (has_byte g.H.GcHeap.KIND c.args.owner.now.seen c.args.gc_ref.now c.args.ty.now.index c.args.bytes.now can.object can.shape can.count can.to_fill (some g at) c.is_ready.ensures.can c.is_ready.ensures.heap))

-- the slot is that of the first element, as any fields are said to be
offset_is : (g : Over) (c : After-slot_at-first g) (object : HeapObject) (shape : Shape) (n : ℕ) (f : IsToFill g.H.GcHeap.KIND c.args.owner.now.seen c.args.gc_ref.now c.args.ty.now.index (BytesFit c.args.bytes.now) object shape n) → c.slot_at-first.result.offset ≡ f.fit.from
offset_is g c object shape n f =
    byte_found g.H.GcHeap.KIND c.args.owner.now.seen c.args.gc_ref.now c.args.ty.now.index c.args.bytes.now object shape n f (some g (goal.at.After-slot_at-first g c).After-is_ready) c.is_ready.ensures.can c.slot_at-first.result
    (finds_slot g.H.GcHeap.KIND c.args.owner.now.seen.types.declarations c.args.ty.now.index 0 c.args.ty.now.shape.now c.requires.listed c.slot_at-first.result
    (subst (λ (k : Layouts). FindsShapeSlot k c.args.ty.now.shape.now 0 c.slot_at-first.result) c.KIND.ensures c.slot_at-first.ensures))

pub write_number-requires-clause-inside : goal.write_number-requires-clause-inside
write_number-requires-clause-inside g c =
    let at = (goal.at.write_number-requires-clause-inside g c).After-is_ready in
    let found = (goal.at.write_number-requires-clause-inside g c).After-slot_at-first in
    let can = c.requires.can in
    subst (λ (o : ℕ). IsNumberPlace g.H.GcHeap.KIND c.args.owner.now.seen c.args.gc_ref.now o (length c.args.bytes.now)) (sym (offset_is g found can.object can.shape can.count can.to_fill))
    (bytes_go g.H.GcHeap.KIND c.args.owner.now.seen c.args.gc_ref.now c.args.ty.now.index c.args.bytes.now can.object can.shape can.count can.to_fill (some g at) c.is_ready.ensures.can)

pub returns : goal.returns
returns g c = λ object shape n f.
    let at = (goal.at.returns g c).After-is_ready in
    let found = (goal.at.returns g c).After-slot_at-first in
    bytes_filled g.H.GcHeap.KIND c.args.owner.now.seen c.args.gc_ref.now c.args.ty.now.index c.args.bytes.now object shape n f (some g at) c.is_ready.ensures.can c.write_number.new.self.seen
    (subst (λ (o : ℕ). WritesBytes g.H.GcHeap.KIND c.args.owner.now.seen c.write_number.new.self.seen c.args.gc_ref.now o c.args.bytes.now) (offset_is g found object shape n f) c.write_number.ensures)
