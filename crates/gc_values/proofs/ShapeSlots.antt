-- Where the type table finds the slot of a value.
use Rattle.std.proofs.Common.{◌≡◌, ℕ, List, Option, Some, None, Bor, map, refl, sym, ap, ◌∙◌, subst, arith}
use Rattle.std.specs.Prelude.{IsSome, option_map}
use Rattle.std.specs.List.{slice_get}
use Rattle.std.specs.Option.{option_copied}
use Rattle.std.proofs.lemmas.Option.{none-some, same_Some, slice_get_within}
use Rattle.gc_types.specs.declared.value.FieldType.{FieldType}
use Rattle.gc_types.specs.declared.kind.Layouts.{Layouts}
use Rattle.gc_types.specs.declared.layout.FieldLayout.{FieldLayout}
use Rattle.gc_types.specs.declared.layout.GcStructLayout.{GcStructLayout}
use Rattle.gc_types.specs.Declarations.{Shape, struct_of, array_of, exn_of, func_of, Declaration, constant_field, shape_fields, shape_elem, shape_at}
use Rattle.gc_types.specs.Layouts.{struct_base, exception_base, field_layouts, struct_layout, exn_layout, shape_layout, declaration_layout}
use Rattle.gc_view.specs.Slots.{StorageSlot, field_slots, element_slots, elements_from, shape_slots}
use Rattle.gc_view.proofs.Layouts.{length-field_layouts}
use Rattle.gc_view.proofs.SlotLemmas.{length-element_slots}
use Rattle.gc_model.proofs.Lists.{slice_get-same_length}
use Rattle.gc_values.specs.declared.slot.Slot.{Slot}
use Rattle.gc_values.specs.HeldSlots.{HasShapeSlot, FindsShapeSlot, HasStorageSlot, FindsSlot}
use Rattle.gc_model.proofs.ObjectShapes.{element_slot, element_slot_at, field_of_slot, field_slot, slot_of}

-- a look-up that copies something found it
pub copied_some : {X : Type 0} (found : Option (Bor X)) (x : X) → option_copied found ≡ Some x → IsSome found
copied_some None x e = absurd (none-some x e)
copied_some (Some b) x e = refl

pub copied_value : {X : Type 0} (found : Option (Bor X)) (b : Bor X) (x : X) → option_copied found ≡ Some x → found ≡ Some b → b.now ≡ x
copied_value {X} found b x e is = same_Some b.now x (ap (option_copied {T = X}) (sym is) ∙ e)

-- a look-up of which a part is something found it
pub shape_some : {X Y : Type 0} (part : X → Y) (found : Option (Bor X)) (y : Y) → option_map part (option_copied found) ≡ Some y → IsSome found
shape_some part None y e = absurd (none-some y e)
shape_some part (Some b) y e = refl

pub shape_found : {X Y : Type 0} (part : X → Y) (found : Option (Bor X)) (b : Bor X) (o : Option Y) → option_map part (option_copied found) ≡ o → found ≡ Some b → o ≡ Some (part b.now)
shape_found {X} part found b o e is = sym e ∙ ap (λ (x : Option (Bor X)). option_map part (option_copied x)) is

-- what lists fields has no elements
pub no_elements : (shape : Shape) (fields : List FieldType) → shape_fields shape ≡ Some fields → shape_elem shape ≡ None
no_elements (struct_of own) fields e = refl
no_elements (array_of element) fields e = absurd (none-some fields e)
no_elements (exn_of params) fields e = refl
no_elements (func_of params results) fields e = absurd (none-some fields e)

-- The slot of a field, by its type and its layout.
pub record FieldPlaced (base : ℕ) (fields : List FieldType) (index : ℕ) (slot : StorageSlot) : Type 0 where
  pub field : FieldType
  pub field_is : slice_get fields index ≡ Some field
  pub layout : FieldLayout
  pub layout_is : slice_get (field_layouts base fields) index ≡ Some layout
  pub slot_is : slot_of field layout ≡ slot

field_placed : (base : ℕ) (fields : List FieldType) (index : ℕ) (slot : StorageSlot) → slice_get (field_slots base fields) index ≡ Some slot → FieldPlaced base fields index slot
field_placed base fields index slot e =
    let found = field_of_slot base fields index slot e in
    let layout = slice_get-same_length fields (field_layouts base fields) index found.field (sym (length-field_layouts base fields)) found.field_is in
    record {
      field = found.field;
      field_is = found.field_is;
      layout = layout.0;
      layout_is = layout.1;
      slot_is = same_Some (slot_of found.field layout.0) slot (sym (field_slot base fields index found.field layout.0 found.field_is layout.1) ∙ e);
    }

-- The fields of a struct or an exception, and the slot of one.
pub record FieldsFound (layouts : Layouts) (shape : Shape) (index : ℕ) (slot : StorageSlot) : Type 0 where
  pub base : ℕ
  pub fields : List FieldType
  pub fields_are : shape_fields shape ≡ Some fields
  pub layout : GcStructLayout
  pub layout_is : shape_layout layouts shape ≡ Some layout
  pub layouts_are : layout.fields ≡ field_layouts base fields
  pub placed : FieldPlaced base fields index slot

pub laid_out : (layouts : Layouts) (d : Option Declaration) (shape : Shape) → option_map (λ (x : Declaration). x.shape) d ≡ Some shape → declaration_layout layouts d ≡ shape_layout layouts shape
laid_out layouts None shape e = absurd (none-some shape e)
laid_out layouts (Some d) shape e = ap (shape_layout layouts) (same_Some d.shape shape e)

pub fields_found : (layouts : Layouts) (shape : Shape) (index : ℕ) → shape_elem shape ≡ None → (count : ℕ) (slot : StorageSlot) → slice_get (shape_slots layouts shape count) index ≡ Some slot → FieldsFound layouts shape index slot
fields_found layouts (struct_of fields) index no_array count slot e = record {
  base = struct_base layouts;
  fields = fields;
  fields_are = refl;
  layout = struct_layout layouts fields;
  layout_is = refl;
  layouts_are = refl;
  placed = field_placed (struct_base layouts) fields index slot e;
}
fields_found layouts (array_of element) index no_array count slot e = absurd (none-some element (sym no_array))
fields_found layouts (exn_of params) index no_array count slot e = record {
  base = exception_base layouts;
  fields = map constant_field params;
  fields_are = refl;
  layout = exn_layout layouts params;
  layout_is = refl;
  layouts_are = refl;
  placed = field_placed (exception_base layouts) (map constant_field params) index slot e;
}
fields_found layouts (func_of params results) index no_array count slot e = absurd (none-some slot e)

-- the slot of an element
element_placed : (layouts : Layouts) (element : FieldType) (n index : ℕ) (slot : StorageSlot) → slice_get (element_slots element.element_type n (elements_from layouts element)) index ≡ Some slot → element_slot layouts element index ≡ slot
element_placed layouts element n index slot e =
    let slots : List StorageSlot = element_slots element.element_type n (elements_from layouts element) in
    let within = slice_get_within slots index slot e in
    let count = length-element_slots element.element_type n (elements_from layouts element) in
    same_Some (element_slot layouts element index) slot (sym (element_slot_at element.element_type n (elements_from layouts element) index (omega (arith, within, count))) ∙ e)

pub element_found : (layouts : Layouts) (shape : Shape) (index : ℕ) (element : FieldType) → shape_elem shape ≡ Some element → (count : ℕ) (slot : StorageSlot) → slice_get (shape_slots layouts shape count) index ≡ Some slot
    → element_slot layouts element index ≡ slot
element_found layouts (struct_of fields) index element is count slot e = absurd (none-some element is)
element_found layouts (array_of other) index element is count slot e =
    element_placed layouts element count index slot (ap (λ (x : FieldType). slice_get (shape_slots layouts (array_of x) count) index) (same_Some element other (sym is)) ∙ e)
element_found layouts (exn_of params) index element is count slot e = absurd (none-some element is)
element_found layouts (func_of params results) index element is count slot e = absurd (none-some element is)

-- slots of a declared type are those of its shape
module _ (layouts : Layouts) (types : List Declaration) (ty index : ℕ) (shape : Shape) (declared : shape_at types ty ≡ Some shape) where
  pub has_shape_slot : HasStorageSlot layouts types ty index → HasShapeSlot layouts shape index
  has_shape_slot has =
      subst (λ (s : Shape). HasShapeSlot layouts s index) (same_Some has.shape shape (sym has.declared ∙ declared)) has.has

  pub finds_slot : (found : Slot) → FindsShapeSlot layouts shape index found → FindsSlot layouts types ty index found
  finds_slot found finds other count slot is e =
      finds count slot (ap (λ (s : Shape). slice_get (shape_slots layouts s count) index) (same_Some shape other (sym declared ∙ is)) ∙ e)
