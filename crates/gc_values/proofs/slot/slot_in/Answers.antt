use Rattle.std.proofs.Common.{◌≡◌, Some, sym, ap, ◌∙◌, subst}
use Rattle.std.specs.FinMap as finite
use Rattle.gc_types.specs.declared.kind.Layouts.{Layouts}
use Rattle.gc_types.specs.Declarations.{shape_at}
use Rattle.gc_view.specs.Heaps.{HeapObject}
use Rattle.gc_values.specs.HeldSlots.{HasShapeSlot, FindsShapeSlot}
use Rattle.gc_values.proofs.ShapeSlots.{shape_some, shape_found, has_shape_slot, finds_slot}
use Rattle.gc_values.proofs.slot.slot_in.Given.{Over}
use Rattle.gc_values.proofs.slot.slot_in.Goals.{After-type_index, After-unwrap-shape}
use Rattle.gc_values.proofs.slot.slot_in.Goals as goal

pub header_of-header-requires-clause-held : goal.header_of-header-requires-clause-held
header_of-header-requires-clause-held g c = (c.requires.has.object, c.requires.has.held)

-- the header tells the object's type
type_is : (g : Over) (c : After-type_index g) (object : HeapObject) → finite.get (g.H.GcHeap.seen c.args.heap.now).content c.args.gc_ref.now ≡ Some object → c.type_index.result ≡ object.ty
type_is g c object held = c.type_index.ensures ∙ (c.header_of-header.ensures object held).ty

pub unwrap-shape-requires : goal.unwrap-shape-requires
unwrap-shape-requires g c =
    let at = (goal.at.unwrap-shape-requires g c).After-type_index in
    let has = c.requires.has in
    shape_some _ c.shape.result has.has.shape (c.shape.ensures ∙ ap (shape_at c.args.types.now.declarations) (type_is g at has.object has.held) ∙ has.has.declared)

-- the table has its shape
shape_is : (g : Over) (c : After-unwrap-shape g) (object : HeapObject) → finite.get (g.H.GcHeap.seen c.args.heap.now).content c.args.gc_ref.now ≡ Some object
    → shape_at c.args.types.now.declarations object.ty ≡ Some c.unwrap-shape.result.now.value
shape_is g c object held =
    sym (ap (shape_at c.args.types.now.declarations) (type_is g (goal.at.After-unwrap-shape g c).After-type_index object held)) ∙ shape_found _ c.shape.result c.unwrap-shape.result _ c.shape.ensures c.unwrap-shape.ensures

pub slot_at-requires : goal.slot_at-requires
slot_at-requires g c =
    let at = (goal.at.slot_at-requires g c).After-unwrap-shape in
    let has = c.requires.has in
    subst (λ (k : Layouts). HasShapeSlot k c.deref.result.now c.args.index) (sym c.KIND.ensures)
    (has_shape_slot g.H.GcHeap.KIND c.args.types.now.declarations has.object.ty c.args.index c.deref.result.now (shape_is g at has.object has.held ∙ ap Some (sym c.deref.ensures)) has.has)

pub returns : goal.returns
returns g c object held =
    let at = (goal.at.returns g c).After-unwrap-shape in
    finds_slot g.H.GcHeap.KIND c.args.types.now.declarations object.ty c.args.index c.deref.result.now (shape_is g at object held ∙ ap Some (sym c.deref.ensures)) c.slot_at.result
    (subst (λ (k : Layouts). FindsShapeSlot k c.deref.result.now c.args.index c.slot_at.result) c.KIND.ensures c.slot_at.ensures)
