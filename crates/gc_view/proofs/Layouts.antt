-- Fields lie one behind another, inside the object.
use Rattle.std.proofs.Common.{◌≡◌, ℕ, ◌+◌, ◌<◌, ◌≤◌, List, [], ◌∷◌, Some, length, ap, refl, subst, arith, zero, suc}
use Rattle.std.specs.List.{slice_get}
use Rattle.std.proofs.lemmas.Option.{none-some}
use Rattle.gc_types.specs.declared.value.FieldType.{FieldType}
use Rattle.gc_types.specs.declared.value.StorageType.{StorageType}
use Rattle.gc_types.specs.declared.value.StorageType.TheVariants as storage
use Rattle.gc_types.specs.declared.value.ValType.{ValType}
use Rattle.gc_types.specs.declared.value.ValType.TheVariants as val
use Rattle.gc_types.specs.declared.kind.Layouts.{Layouts}
use Rattle.gc_types.specs.declared.kind.Layouts.TheVariants.{Null, Counting, Copying}
use Rattle.gc_types.specs.declared.layout.FieldLayout.{FieldLayout}
use Rattle.gc_types.specs.Layouts.{field_layouts, fields_end, field_offset, storage_width, value_width, round_up}
use Rattle.gc_view.specs.Sizes.{stored_size}

value_width_positive : (ty : ValType) → 0 < value_width ty
value_width_positive val.I32 = omega arith
value_width_positive val.I64 = omega arith
value_width_positive val.F32 = omega arith
value_width_positive val.F64 = omega arith
value_width_positive val.V128 = omega arith
value_width_positive (val.Ref ty) = omega arith

pub storage_width_positive : (ty : StorageType) → 0 < storage_width ty
storage_width_positive storage.I8 = omega arith
storage_width_positive storage.I16 = omega arith
storage_width_positive (storage.ValType ty) = value_width_positive ty

-- rounding up does not lower
pub round_up-le : (n w : ℕ) → 0 < w → n ≤ round_up n w
round_up-le n w positive = omega arith

-- a heap keeps as many bytes as it is asked for, or more
pub stored_size-le : (layouts : Layouts) (n : ℕ) → n ≤ stored_size layouts n
stored_size-le Null n = omega arith
stored_size-le Counting n = omega arith
stored_size-le Copying n = round_up-le n 16 (omega arith)

pub offset_low : (p : ℕ) (field : FieldType) → p ≤ field_offset p field
offset_low p field = round_up-le p (storage_width field.element_type) (storage_width_positive field.element_type)

-- the end of the fields is not below their beginning
pub fields_end-le : (p : ℕ) (fields : List FieldType) → p ≤ fields_end p fields
fields_end-le p [] = omega arith
fields_end-le p (field ∷ fields) =
    omega (arith, offset_low p field, fields_end-le (field_offset p field + storage_width field.element_type) fields)

-- as many layouts as fields
pub length-field_layouts : (p : ℕ) (fields : List FieldType) → length (field_layouts p fields) ≡ length fields
length-field_layouts p [] = refl
length-field_layouts p (field ∷ fields) = ap suc (length-field_layouts (field_offset p field + storage_width field.element_type) fields)

-- no field lies before the first one may
pub layout_low : (p : ℕ) (fields : List FieldType) (i : ℕ) (layout : FieldLayout) → slice_get (field_layouts p fields) i ≡ Some layout → p ≤ layout.offset
layout_low p [] i layout e = absurd (none-some layout e)
layout_low p (field ∷ fields) zero layout e =
    let is : field_offset p field ≡ layout.offset = grind (arith, e) in omega (arith, offset_low p field, is)
layout_low p (field ∷ fields) (suc i) layout e =
    omega (arith, offset_low p field, layout_low (field_offset p field + storage_width field.element_type) fields i layout e)

-- each field ends inside the object
pub layout_high : (p : ℕ) (fields : List FieldType) (i : ℕ) (layout : FieldLayout) (field : FieldType) → slice_get (field_layouts p fields) i ≡ Some layout → slice_get fields i ≡ Some field → layout.offset + storage_width field.element_type ≤ fields_end p fields
layout_high p [] i layout field e f = absurd (none-some layout e)
layout_high p (x ∷ fields) zero layout field e f =
    let is : field_offset p x ≡ layout.offset = grind (arith, e) in
    let same : x ≡ field = grind (arith, f) in
    let ends = fields_end-le (field_offset p x + storage_width x.element_type) fields in
    subst (λ (y : FieldType). layout.offset + storage_width y.element_type ≤ fields_end p (x ∷ fields)) same (omega (arith, ends, is))
layout_high p (x ∷ fields) (suc i) layout field e f = layout_high (field_offset p x + storage_width x.element_type) fields i layout field e f

-- a field ends before a later one begins
pub layouts_apart : (p : ℕ) (fields : List FieldType) (i j : ℕ) (one other : FieldLayout) (field : FieldType) → slice_get (field_layouts p fields) i ≡ Some one → slice_get (field_layouts p fields) j ≡ Some other → slice_get fields i ≡ Some field → i < j → one.offset + storage_width field.element_type ≤ other.offset
layouts_apart p [] i j one other field e f g lt = absurd (none-some one e)
layouts_apart p (x ∷ fields) i zero one other field e f g lt = absurd (omega arith)
layouts_apart p (x ∷ fields) zero (suc j) one other field e f g lt =
    let is : field_offset p x ≡ one.offset = grind (arith, e) in
    let same : x ≡ field = grind (arith, g) in
    let low = layout_low (field_offset p x + storage_width x.element_type) fields j other f in
    subst (λ (y : FieldType). one.offset + storage_width y.element_type ≤ other.offset) same (omega (arith, low, is))
layouts_apart p (x ∷ fields) (suc i) (suc j) one other field e f g lt =
    layouts_apart (field_offset p x + storage_width x.element_type) fields i j one other field e f g (omega arith)
