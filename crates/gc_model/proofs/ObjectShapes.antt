-- The shape of an object's type, and the slot of each of its values.
use Rattle.std.proofs.Common.{◌≡◌, ℕ, ◌+◌, ◌*◌, ◌<◌, List, [], ◌∷◌, map, length, Option, Some, None, refl, sym, ap, ◌∙◌, arith, zero, suc}
use Rattle.std.specs.List.{slice_get}
use Rattle.std.specs.Prelude.{option_map, option_and_then}
use Rattle.std.proofs.lemmas.Option.{none-some}
use Rattle.gc_types.specs.declared.value.FieldType.{FieldType}
use Rattle.gc_types.specs.declared.value.StorageType.{StorageType}
use Rattle.gc_types.specs.declared.value.ValType.{ValType}
use Rattle.gc_types.specs.declared.kind.Layouts.{Layouts}
use Rattle.gc_types.specs.declared.kind.TypeKind.TheVariants as kinds
use Rattle.gc_types.specs.declared.layout.FieldLayout.{FieldLayout}
use Rattle.gc_types.specs.Declarations.{Declaration, Shape, struct_of, array_of, exn_of, func_of, shape_kind, constant_field, shape_struct_fields, declaration_struct_fields, shape_elem, declaration_elem, struct_fields_at, elem_at, shape_at}
use Rattle.gc_types.specs.Layouts.{struct_base, exception_base, field_layouts, field_offset, storage_width}
use Rattle.gc_view.specs.Slots.{StorageSlot, field_slots, element_slots, elements_from, shape_slots, shape_size}
use Rattle.gc_model.specs.Values.{Object, struct, array, host, exception}
use Rattle.gc_model.specs.Reach.{object_values}
use Rattle.gc_model.specs.Sizes.{shape_exn_fields, exn_fields_at, object_size, fields_size, elements_size, exception_size}
use Rattle.gc_model.specs.Stored.{listed_type, value_type}

-- the shape of an object's type; a host object has none
abbrev pub object_shape : {D : Type 0} → List Declaration → Object D → Option Shape
object_shape types (struct ty values) = shape_at types ty
object_shape types (array ty values) = shape_at types ty
object_shape types (host value) = None
object_shape types (exception ty tag values) = shape_at types ty

-- the type of the value at an index of an object of that shape
abbrev pub shape_value_type : Shape → ℕ → Option FieldType
shape_value_type (struct_of fields) index = slice_get fields index
shape_value_type (array_of element) index = Some element
shape_value_type (exn_of params) index = slice_get (map constant_field params) index
shape_value_type (func_of params results) index = None

-- The slot of the value at an index of an object.
pub record IsSlotOf {D : Type 0} (layouts : Layouts) (types : List Declaration) (o : Object D) (index : ℕ) (slot : StorageSlot) : Type 0 where
  pub shape : Shape
  pub declared : object_shape types o ≡ Some shape
  pub slot_is : slice_get (shape_slots layouts shape (length (object_values o))) index ≡ Some slot

-- there is one
pub slot_alone : {D : Type 0} (layouts : Layouts) (types : List Declaration) (o : Object D) (index : ℕ) (slot other : StorageSlot) → IsSlotOf layouts types o index slot → IsSlotOf layouts types o index other → slot ≡ other
slot_alone layouts types o index slot other a b =
    let shapes : Some a.shape ≡ Some b.shape = sym a.declared ∙ b.declared in
    let same : a.shape ≡ b.shape = grind (arith, shapes) in
    let both : Some slot ≡ Some other = sym a.slot_is ∙ ap (λ (s : Shape). slice_get (shape_slots layouts s (length (object_values o))) index) same ∙ b.slot_is in
    grind (arith, both)

-- a field of a list of fields, as a slot
abbrev pub slot_of : FieldType → FieldLayout → StorageSlot
slot_of field layout = record { storage = field.element_type; offset = layout.offset }

pub field_slot : (p : ℕ) (fields : List FieldType) (i : ℕ) (field : FieldType) (layout : FieldLayout) → slice_get fields i ≡ Some field → slice_get (field_layouts p fields) i ≡ Some layout → slice_get (field_slots p fields) i ≡ Some (slot_of field layout)
field_slot p [] i field layout e f = absurd (none-some field e)
field_slot p (x ∷ fields) zero field layout e f =
    let same : x ≡ field = grind (arith, e) in
    let at : field_offset p x ≡ layout.offset = grind (arith, f) in
    λ i. Some (record { storage = (same i).element_type; offset = at i })
field_slot p (x ∷ fields) (suc i) field layout e f = field_slot (field_offset p x + storage_width x.element_type) fields i field layout e f

-- an element of an array, as a slot
abbrev pub element_slot : Layouts → FieldType → ℕ → StorageSlot
element_slot layouts element i = record { storage = element.element_type; offset = elements_from layouts element + i * storage_width element.element_type }

pub element_slot_at : (ty : StorageType) (n p i : ℕ) → i < n → slice_get (element_slots ty n p) i ≡ Some (record { storage = ty; offset = p + i * storage_width ty })
element_slot_at ty zero p i below = absurd (omega (arith, below))
element_slot_at ty (suc n) p zero below = ap (λ (o : ℕ). Some (record { storage = ty; offset = o })) (let e : p ≡ p + 0 * storage_width ty = omega arith in e)
element_slot_at ty (suc n) p (suc i) below =
    let e : p + storage_width ty + i * storage_width ty ≡ p + suc i * storage_width ty = omega arith in
    element_slot_at ty n (p + storage_width ty) i (omega (arith, below)) ∙ ap (λ (o : ℕ). Some (record { storage = ty; offset = o })) e

-- a slot of a list of fields is that of a field
pub record FieldOfSlot (fields : List FieldType) (i : ℕ) (slot : StorageSlot) : Type 0 where
  pub field : FieldType
  pub field_is : slice_get fields i ≡ Some field
  pub type_is : field.element_type ≡ slot.storage

pub field_of_slot : (p : ℕ) (fields : List FieldType) (i : ℕ) (slot : StorageSlot) → slice_get (field_slots p fields) i ≡ Some slot → FieldOfSlot fields i slot
field_of_slot p [] i slot e = absurd (none-some slot e)
field_of_slot p (x ∷ fields) zero slot e = record { field = x; field_is = refl; type_is = let same : x.element_type ≡ slot.storage = grind (arith, e) in same }
field_of_slot p (x ∷ fields) (suc i) slot e =
    let rest = field_of_slot (field_offset p x + storage_width x.element_type) fields i slot e in
    record { field = rest.field; field_is = rest.field_is; type_is = rest.type_is }

element_type_is : (ty : StorageType) (n p i : ℕ) (slot : StorageSlot) → slice_get (element_slots ty n p) i ≡ Some slot → ty ≡ slot.storage
element_type_is ty zero p i slot e = absurd (none-some slot e)
element_type_is ty (suc n) p zero slot e = grind (arith, e)
element_type_is ty (suc n) p (suc i) slot e = element_type_is ty n (p + storage_width ty) i slot e

-- The type of the value that a slot is for.
pub record TypeOfSlot (shape : Shape) (index : ℕ) (slot : StorageSlot) : Type 0 where
  pub field : FieldType
  pub field_is : shape_value_type shape index ≡ Some field
  pub type_is : field.element_type ≡ slot.storage

pub type_of_slot : (layouts : Layouts) (shape : Shape) (n index : ℕ) (slot : StorageSlot) → slice_get (shape_slots layouts shape n) index ≡ Some slot → TypeOfSlot shape index slot
type_of_slot layouts (struct_of fields) n index slot e =
    let found = field_of_slot (struct_base layouts) fields index slot e in
    record { field = found.field; field_is = found.field_is; type_is = found.type_is }
type_of_slot layouts (array_of element) n index slot e = record { field = element; field_is = refl; type_is = element_type_is element.element_type n (elements_from layouts element) index slot e }
type_of_slot layouts (exn_of params) n index slot e =
    let found = field_of_slot (exception_base layouts) (map constant_field params) index slot e in
    record { field = found.field; field_is = found.field_is; type_is = found.type_is }
type_of_slot layouts (func_of params results) n index slot e = absurd (none-some slot e)

-- What a declaration says, once its shape is known.
module _ {A : Type 0} (by : Shape → A) (by_declaration : Option Declaration → A) (says : (d : Declaration) → by_declaration (Some d) ≡ by d.shape) where
  by_shape_of : (d : Option Declaration) (shape : Shape) → option_map (λ (x : Declaration). x.shape) d ≡ Some shape → by_declaration d ≡ by shape
  by_shape_of None shape e = absurd (none-some shape e)
  by_shape_of (Some d) shape e = let same : d.shape ≡ shape = grind (arith, e) in says d ∙ ap by same

module _ (types : List Declaration) (ty : ℕ) (shape : Shape) (declared : shape_at types ty ≡ Some shape) where
  pub struct_fields_are : struct_fields_at types ty ≡ shape_struct_fields shape
  struct_fields_are = by_shape_of shape_struct_fields declaration_struct_fields (λ d. refl) (slice_get types ty) shape declared

  pub element_is : elem_at types ty ≡ shape_elem shape
  element_is = by_shape_of shape_elem declaration_elem (λ d. refl) (slice_get types ty) shape declared

  pub exn_fields_are : exn_fields_at types ty ≡ shape_exn_fields shape
  exn_fields_are = by_shape_of shape_exn_fields (option_and_then (λ (d : Declaration). shape_exn_fields d.shape)) (λ d. refl) (slice_get types ty) shape declared

-- what an object of a kind of type is by its shape: the types of its values, and its size
struct_type_is : (shape : Shape) (index : ℕ) → shape_kind shape ≡ kinds.Struct → listed_type (shape_struct_fields shape) index ≡ shape_value_type shape index
struct_type_is (struct_of fields) index is = refl
struct_type_is (array_of element) index is = absurd (cc)
struct_type_is (exn_of params) index is = absurd (cc)
struct_type_is (func_of params results) index is = absurd (cc)

array_type_is : (shape : Shape) (index : ℕ) → shape_kind shape ≡ kinds.Array → shape_elem shape ≡ shape_value_type shape index
array_type_is (struct_of fields) index is = absurd (cc)
array_type_is (array_of element) index is = refl
array_type_is (exn_of params) index is = absurd (cc)
array_type_is (func_of params results) index is = absurd (cc)

exn_type_is : (shape : Shape) (index : ℕ) → shape_kind shape ≡ kinds.Exn → listed_type (shape_exn_fields shape) index ≡ shape_value_type shape index
exn_type_is (struct_of fields) index is = absurd (cc)
exn_type_is (array_of element) index is = absurd (cc)
exn_type_is (exn_of params) index is = refl
exn_type_is (func_of params results) index is = absurd (cc)

struct_size_is : (layouts : Layouts) (shape : Shape) (n : ℕ) → shape_kind shape ≡ kinds.Struct → fields_size layouts (shape_struct_fields shape) ≡ shape_size layouts shape n
struct_size_is layouts (struct_of fields) n is = refl
struct_size_is layouts (array_of element) n is = absurd (cc)
struct_size_is layouts (exn_of params) n is = absurd (cc)
struct_size_is layouts (func_of params results) n is = absurd (cc)

array_size_is : (layouts : Layouts) (shape : Shape) (n : ℕ) → shape_kind shape ≡ kinds.Array → elements_size layouts (shape_elem shape) n ≡ shape_size layouts shape n
array_size_is layouts (struct_of fields) n is = absurd (cc)
array_size_is layouts (array_of element) n is = refl
array_size_is layouts (exn_of params) n is = absurd (cc)
array_size_is layouts (func_of params results) n is = absurd (cc)

exn_size_is : (layouts : Layouts) (shape : Shape) (n : ℕ) → shape_kind shape ≡ kinds.Exn → exception_size layouts (shape_exn_fields shape) ≡ shape_size layouts shape n
exn_size_is layouts (struct_of fields) n is = absurd (cc)
exn_size_is layouts (array_of element) n is = absurd (cc)
exn_size_is layouts (exn_of params) n is = refl
exn_size_is layouts (func_of params results) n is = absurd (cc)

-- An object is of a shape: its type is declared with that shape, of the object's kind.
abbrev pub IsOfShape : {D : Type 0} → List Declaration → Object D → Shape → Type 0
IsOfShape types (struct ty values) shape = (shape_at types ty ≡ Some shape) × (shape_kind shape ≡ kinds.Struct)
IsOfShape types (array ty values) shape = (shape_at types ty ≡ Some shape) × (shape_kind shape ≡ kinds.Array)
IsOfShape types (host value) shape = ⊥
IsOfShape types (exception ty tag values) shape = (shape_at types ty ≡ Some shape) × (shape_kind shape ≡ kinds.Exn)

module _ {D : Type 0} (layouts : Layouts) (types : List Declaration) where
  pub shape_declared : (o : Object D) (shape : Shape) → IsOfShape types o shape → object_shape types o ≡ Some shape
  shape_declared (struct ty values) shape is = is.0
  shape_declared (array ty values) shape is = is.0
  shape_declared (host value) shape is = absurd is
  shape_declared (exception ty tag values) shape is = is.0

  -- the types of its values are those of its shape
  pub value_type_is : (o : Object D) (shape : Shape) (index : ℕ) → IsOfShape types o shape → value_type types o index ≡ shape_value_type shape index
  value_type_is (struct ty values) shape index is = ap (λ (fs : Option (List FieldType)). listed_type fs index) (struct_fields_are types ty shape is.0) ∙ struct_type_is shape index is.1
  value_type_is (array ty values) shape index is = element_is types ty shape is.0 ∙ array_type_is shape index is.1
  value_type_is (host value) shape index is = absurd is
  value_type_is (exception ty tag values) shape index is = ap (λ (fs : Option (List FieldType)). listed_type fs index) (exn_fields_are types ty shape is.0) ∙ exn_type_is shape index is.1

  -- and so is its size
  pub object_size_is : (o : Object D) (shape : Shape) → IsOfShape types o shape → object_size layouts types o ≡ shape_size layouts shape (length (object_values o))
  object_size_is (struct ty values) shape is = ap (fields_size layouts) (struct_fields_are types ty shape is.0) ∙ struct_size_is layouts shape (length values) is.1
  object_size_is (array ty values) shape is = ap (λ (e : Option FieldType). elements_size layouts e (length values)) (element_is types ty shape is.0) ∙ array_size_is layouts shape (length values) is.1
  object_size_is (host value) shape is = absurd is
  object_size_is (exception ty tag values) shape is = ap (exception_size layouts) (exn_fields_are types ty shape is.0) ∙ exn_size_is layouts shape (length values) is.1

-- the shape of a type by what it lists
fields_shape : (d : Option Declaration) (fields : List FieldType) → declaration_struct_fields d ≡ Some fields → option_map (λ (x : Declaration). x.shape) d ≡ Some (struct_of fields)
fields_shape None fields e = absurd (none-some fields e)
fields_shape (Some d) fields e = by d.shape e
  where
    by : (shape : Shape) → shape_struct_fields shape ≡ Some fields → Some shape ≡ Some (struct_of fields)
    by (struct_of fs) f = let same : fs ≡ fields = grind (arith, f) in ap (λ x. Some (struct_of x)) same
    by (array_of element) f = absurd (none-some fields f)
    by (exn_of params) f = absurd (none-some fields f)
    by (func_of params results) f = absurd (none-some fields f)

element_shape : (d : Option Declaration) (element : FieldType) → declaration_elem d ≡ Some element → option_map (λ (x : Declaration). x.shape) d ≡ Some (array_of element)
element_shape None element e = absurd (none-some element e)
element_shape (Some d) element e = by d.shape e
  where
    by : (shape : Shape) → shape_elem shape ≡ Some element → Some shape ≡ Some (array_of element)
    by (struct_of fs) f = absurd (none-some element f)
    by (array_of x) f = let same : x ≡ element = grind (arith, f) in ap (λ y. Some (array_of y)) same
    by (exn_of params) f = absurd (none-some element f)
    by (func_of params results) f = absurd (none-some element f)

params_shape : (d : Option Declaration) (fields : List FieldType) → option_and_then (λ (x : Declaration). shape_exn_fields x.shape) d ≡ Some fields
    → (params : List ValType) × ((option_map (λ (x : Declaration). x.shape) d ≡ Some (exn_of params)) × (map constant_field params ≡ fields))
params_shape None fields e = absurd (none-some fields e)
params_shape (Some d) fields e = by d.shape e
  where
    by : (shape : Shape) → shape_exn_fields shape ≡ Some fields → (params : List ValType) × ((Some shape ≡ Some (exn_of params)) × (map constant_field params ≡ fields))
    by (struct_of fs) f = absurd (none-some fields f)
    by (array_of x) f = absurd (none-some fields f)
    by (exn_of params) f = let same : map constant_field params ≡ fields = grind (arith, f) in (params, (refl, same))
    by (func_of params results) f = absurd (none-some fields f)

pub struct_shape : (types : List Declaration) (ty : ℕ) (fields : List FieldType) → struct_fields_at types ty ≡ Some fields → shape_at types ty ≡ Some (struct_of fields)
struct_shape types ty fields e = fields_shape (slice_get types ty) fields e

pub array_shape : (types : List Declaration) (ty : ℕ) (element : FieldType) → elem_at types ty ≡ Some element → shape_at types ty ≡ Some (array_of element)
array_shape types ty element e = element_shape (slice_get types ty) element e

pub exception_shape : (types : List Declaration) (ty : ℕ) (fields : List FieldType) → exn_fields_at types ty ≡ Some fields
    → (params : List ValType) × ((shape_at types ty ≡ Some (exn_of params)) × (map constant_field params ≡ fields))
exception_shape types ty fields e = params_shape (slice_get types ty) fields e
