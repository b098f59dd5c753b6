-- What the type of an object that is to be filled lists, by the kind that was requested.
use Rattle.std.proofs.Common.{◌≡◌, ℕ, List, map, Some, None, refl, sym, ap, ◌∙◌, subst}
use Rattle.std.proofs.lemmas.Option.{none-some, same_Some}
use Rattle.gc_types.specs.declared.kind.VMGcKind.TheVariants.{ArrayRef}
use Rattle.gc_types.specs.Declarations.{Shape, struct_of, array_of, exn_of, func_of, constant_field, shape_at, shape_elem, shape_fields}
use Rattle.gc_types.specs.declared.kind.Layouts.{Layouts}
use Rattle.gc_types.specs.declared.value.FieldType.{FieldType}
use Rattle.gc_view.specs.Heaps.{HeapObject}
use Rattle.gc_view.specs.Slots.{StorageSlot}
use Rattle.gc_owner.specs.Owners.{OwnerView}
use Rattle.gc_values.specs.Words.{HandleRoots}
use Rattle.gc_values.specs.HeldSlots.{HasHeapShape}
use Rattle.gc_values.specs.Filling.{CanFill, IsOfAskedKind}
use Rattle.gc_values.specs.declared.request.Place.TheVariants as place

-- what is no array has no elements
no_elem : (shape : Shape) (o : HeapObject) (n : ℕ) → HasHeapShape o shape n → ¬ (o.kind ≡ ArrayRef) → shape_elem shape ≡ None
no_elem (struct_of fields) o n has other = refl
no_elem (array_of element) o n has other = absurd (other has.0)
no_elem (exn_of params) o n has other = refl
no_elem (func_of params results) o n has other = absurd has

-- and has fields
fields_of : (shape : Shape) (o : HeapObject) (n : ℕ) → HasHeapShape o shape n → shape_elem shape ≡ None → (fields : List FieldType) × (shape_fields shape ≡ Some fields)
fields_of (struct_of fields) o n has none = (fields, refl)
fields_of (array_of element) o n has none = absurd (none-some element (sym none))
fields_of (exn_of params) o n has none = (map constant_field params, refl)
fields_of (func_of params results) o n has none = absurd has

-- an object that is to be filled is of the shape that its type lists
listed_is : {D : Type 0} {layouts : Layouts} {v : OwnerView D} {p ty : ℕ} {Fit : HandleRoots → List StorageSlot → Type 0} (can : CanFill layouts v p ty Fit) (shape : Shape) → shape_at v.types.declarations ty ≡ Some shape → shape ≡ can.shape
listed_is {D} {layouts} {v} can shape declared = same_Some shape can.shape (sym declared ∙ ap (shape_at v.types.declarations) (sym can.to_fill.of_type) ∙ can.to_fill.is.declared)

pub has_fields : {D : Type 0} {layouts : Layouts} {v : OwnerView D} {p ty : ℕ} {Fit : HandleRoots → List StorageSlot → Type 0} (can : CanFill layouts v p ty Fit) (shape : Shape) → shape_at v.types.declarations ty ≡ Some shape
    → shape_elem shape ≡ None → (fields : List FieldType) × (shape_fields shape ≡ Some fields)
has_fields can shape declared none = fields_of shape can.object can.count (subst (λ (s : Shape). HasHeapShape can.object s can.count) (sym (listed_is can shape declared)) can.to_fill.is.has) none

-- an exception has no elements
pub exn_has_none : {D : Type 0} {layouts : Layouts} {v : OwnerView D} {p ty : ℕ} {Fit : HandleRoots → List StorageSlot → Type 0} (can : CanFill layouts v p ty Fit) (shape : Shape) → shape_at v.types.declarations ty ≡ Some shape
    → (n : ℕ) (tag : _) → IsOfAskedKind (place.Exn n tag) v.heap p → shape_elem shape ≡ None
exn_has_none can shape declared n tag kind =
    ap shape_elem (listed_is can shape declared)
    ∙ no_elem can.shape can.object can.count can.to_fill.is.has (λ e. cc (sym (kind can.object can.to_fill.is.held) ∙ e))
