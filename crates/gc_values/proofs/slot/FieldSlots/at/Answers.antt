use Rattle.std.proofs.Common.{◌≡◌, ℕ, ◌<◌, List, length, false, sym, ap, ◌∙◌, arith}
use Rattle.std.specs.List.{slice_get}
use Rattle.std.proofs.lemmas.Option.{slice_get_within, get_or_from_slice_get, same_Some}
use Rattle.gc_types.specs.declared.kind.Layouts.{Layouts}
use Rattle.gc_types.specs.declared.value.FieldType.{FieldType}
use Rattle.gc_types.specs.declared.layout.FieldLayout.{FieldLayout}
use Rattle.gc_types.specs.declared.layout.GcStructLayout.{GcStructLayout}
use Rattle.gc_types.specs.Declarations.{Shape}
use Rattle.gc_types.specs.Layouts.{field_layouts}
use Rattle.gc_view.specs.Slots.{StorageSlot}
use Rattle.gc_view.proofs.Layouts.{length-field_layouts}
use Rattle.gc_values.specs.declared.slot.FieldSlots.{FieldSlots}
use Rattle.gc_values.specs.HeldSlots.{AreFieldSlots}
use Rattle.gc_values.proofs.ShapeSlots.{FieldsFound, fields_found, no_elements}
use Rattle.gc_values.proofs.slot.FieldSlots.at.Goals.{Start}
use Rattle.gc_values.proofs.slot.FieldSlots.at.Goals as goal

module _ (layouts : Layouts) (shape : Shape) (index : ℕ) (slot : StorageSlot) (slots : FieldSlots) (are : AreFieldSlots layouts shape slots) (f : FieldsFound layouts shape index slot) where
  fields_are : slots.fields.now ≡ f.fields
  fields_are = same_Some slots.fields.now f.fields (sym are.fields_are ∙ f.fields_are)

  layouts_are : slots.field_layouts.now ≡ field_layouts f.base f.fields
  layouts_are = sym are.layouts_are ∙ ap (λ (l : GcStructLayout). l.fields) (same_Some are.layout f.layout (sym are.layout_is ∙ f.layout_is)) ∙ f.layouts_are

-- the field whose slot is asked for
found : (c : Start) → FieldsFound c.requires.0 c.requires.1.0 c.args.index c.requires.1.1.1.slot
found c = let has = c.requires.1.1.1 in fields_found c.requires.0 c.requires.1.0 c.args.index (no_elements c.requires.1.0 c.args.self.now.fields.now c.requires.1.1.0.fields_are) has.count has.slot has.slot_is

within : (c : Start) → c.args.index < length c.args.self.now.fields.now
within c =
    let f = found c in
    let inside = slice_get_within f.fields c.args.index f.placed.field f.placed.field_is in
    omega (arith, inside, ap length (fields_are c.requires.0 c.requires.1.0 c.args.index c.requires.1.1.1.slot c.args.self.now c.requires.1.1.0 f))

within_layouts : (c : Start) → c.args.index < length c.args.self.now.field_layouts.now
within_layouts c =
    let f = found c in
    let inside = slice_get_within f.fields c.args.index f.placed.field f.placed.field_is in
    omega (arith, inside, ap length (layouts_are c.requires.0 c.requires.1.0 c.args.index c.requires.1.1.1.slot c.args.self.now c.requires.1.1.0 f), length-field_layouts f.base f.fields)

pub bounds-self-index : goal.bounds-self-index
bounds-self-index c = within (goal.at.bounds-self-index c).Start

pub bounds-self-index-2 : goal.bounds-self-index-2
bounds-self-index-2 c = within_layouts (goal.at.bounds-self-index-2 c).Start

pub returns : goal.returns
returns c layouts shape are count slot is =
    let f = fields_found layouts shape c.args.index (no_elements shape c.args.self.now.fields.now are.fields_are) count slot is in
    let field_here = ap (λ (xs : List FieldType). slice_get xs c.args.index) (fields_are layouts shape c.args.index slot c.args.self.now are f) ∙ f.placed.field_is in
    let layout_here = ap (λ (xs : List FieldLayout). slice_get xs c.args.index) (layouts_are layouts shape c.args.index slot c.args.self.now are f) ∙ f.placed.layout_is in
    let field = get_or_from_slice_get c.args.self.now.fields.now c.args.index f.placed.field c.index-self-index.result field_here in
    let place = get_or_from_slice_get c.args.self.now.field_layouts.now c.args.index f.placed.layout (record { offset = 0; is_gc_ref = false }) layout_here in
    (λ i. record { storage = (field i).element_type; offset = (place i).offset }) ∙ f.placed.slot_is
