-- The types of the objects that handles name, and their values.
use Rattle.std.proofs.Common.{inl, inr, ◌≡◌, ℕ, List, length, Option, Some, None, sym, ap, ◌∙◌, refl, arith}
use Rattle.std.specs.List.{slice_get}
use Rattle.std.specs.Prelude.{option_map}
use Rattle.std.specs.Option.{option_and_then}
use Rattle.std.proofs.lemmas.Option.{none-some, slice_get_cases, slice_get_within}
use Rattle.gc_types.specs.declared.kind.Layouts.{Layouts}
use Rattle.gc_types.specs.declared.kind.TypeKind.TheVariants as type_kinds
use Rattle.gc_types.specs.declared.value.FieldType.{FieldType}
use Rattle.gc_types.specs.Declarations.{Declaration, Shape, struct_of, array_of, exn_of, func_of, shape_kind, shape_fields, declaration_fields, shape_struct_fields, declaration_struct_fields, shape_elem, declaration_elem, fields_at, struct_fields_at, elem_at, kind_at}
use Rattle.gc_types.specs.Layouts.{struct_base}
use Rattle.gc_view.specs.Heaps.{HeapObject}
use Rattle.gc_view.specs.Slots.{shape_slots}
use Rattle.gc_view.proofs.SlotLemmas.{length-field_slots}
use Rattle.gc_model.specs.Values.{Reference, null, small, at, Value, Object, struct, array}
use Rattle.gc_model.specs.Stored.{listed_type}
use Rattle.gc_model.specs.Table.{Table}
use Rattle.gc_model.specs.Stores.{StoreView}
use Rattle.gc_model.specs.Holds.{HoldsTable, Stands, naming}
use Rattle.gc_model.proofs.HeldObjects.{object_held}
use Rattle.gc_model.proofs.ObjectStands.{value_below}
use Rattle.gc_values.specs.declared.root.GcRootIndex.{GcRootIndex}
use Rattle.gc_store.specs.Roots.{NamesReference}
use Rattle.gc_store.proofs.HandleWords.{named_held}
use Rattle.gc_objects.specs.declared.places.NamedArray.{NamedArray}
use Rattle.gc_objects.specs.declared.places.NamedField.{NamedField}
use Rattle.gc_objects.specs.Answered.{IsStruct, IsNamedArray, IsFieldOf, IsField, IsPast, HasField}
use Rattle.gc_objects.specs.Reads.{IsOutside, IsTypedAt}

-- what is declared of a struct type, and of an array type
record IsStructShape (d : Option Declaration) (shape : Shape) : Type 0 where
  fields : List FieldType
  shape_is : shape ≡ struct_of fields
  listed : declaration_fields d ≡ Some fields
  struct_listed : declaration_struct_fields d ≡ Some fields
  kind : option_map (λ (x : Declaration). shape_kind x.shape) d ≡ Some type_kinds.Struct

struct_declared : (d : Declaration) (shape : Shape) → d.shape ≡ shape → shape_kind shape ≡ type_kinds.Struct → IsStructShape (Some d) shape
struct_declared d (struct_of fields) same is = record {
  fields = fields;
  shape_is = refl;
  listed = ap shape_fields same;
  struct_listed = ap shape_struct_fields same;
  kind = ap (λ (s : Shape). Some (shape_kind s)) same;
}
struct_declared d (array_of element) same is = absurd (cc is)
struct_declared d (exn_of params) same is = absurd (cc is)
struct_declared d (func_of params results) same is = absurd (cc is)

struct_shape : (d : Option Declaration) (shape : Shape) → option_map (λ (x : Declaration). x.shape) d ≡ Some shape → shape_kind shape ≡ type_kinds.Struct → IsStructShape d shape
struct_shape None shape e is = absurd (none-some shape e)
struct_shape (Some d) shape e is = struct_declared d shape (grind (arith, e)) is

record IsArrayShape (d : Option Declaration) : Type 0 where
  element : FieldType
  element_is : declaration_elem d ≡ Some element
  kind : option_map (λ (x : Declaration). shape_kind x.shape) d ≡ Some type_kinds.Array

array_declared : (d : Declaration) (shape : Shape) → d.shape ≡ shape → shape_kind shape ≡ type_kinds.Array → IsArrayShape (Some d)
array_declared d (struct_of fields) same is = absurd (cc is)
array_declared d (array_of element) same is = record { element = element; element_is = ap shape_elem same; kind = ap (λ (s : Shape). Some (shape_kind s)) same }
array_declared d (exn_of params) same is = absurd (cc is)
array_declared d (func_of params results) same is = absurd (cc is)

array_shape : (d : Option Declaration) (shape : Shape) → option_map (λ (x : Declaration). x.shape) d ≡ Some shape → shape_kind shape ≡ type_kinds.Array → IsArrayShape d
array_shape None shape e is = absurd (none-some shape e)
array_shape (Some d) shape e is = array_declared d shape (grind (arith, e)) is

-- A struct's type, of which it has a value for each field.
pub record StructTyped {D : Type 0} (t : Table D) (ty : ℕ) (values : List Value) : Type 0 where
  pub fields : List FieldType
  pub listed : fields_at t.types ty ≡ Some fields
  pub struct_listed : struct_fields_at t.types ty ≡ Some fields
  pub kind : kind_at t.types ty ≡ Some type_kinds.Struct
  pub count : length values ≡ length fields

-- an array's type
pub record ArrayTyped {D : Type 0} (t : Table D) (ty : ℕ) : Type 0 where
  pub element : FieldType
  pub element_is : elem_at t.types ty ≡ Some element
  pub kind : kind_at t.types ty ≡ Some type_kinds.Array

module _ {D : Type 0} (layouts : Layouts) (s : StoreView D) (t : Table D) (holds : HoldsTable layouts s t) (handle : GcRootIndex) where
  -- an object that a handle names stands in the heap
  pub stands_named : (p : ℕ) (o : Object D) → NamesReference s t handle (at p) → slice_get t.objects p ≡ Some o → (h : HeapObject) × Stands layouts t.types (naming holds.0 s.ids) o h
  stands_named p o named e =
      let word = named_held layouts s t holds.0 holds.1 handle (at p) named in
      let held = holds.1.objects.placed p word.0 word.1.0 in
      (held.object, object_held layouts s t holds.0 holds.1 p word.0 o held.object word.1.0 held.in_heap e)

  struct_at_place : (p ty : ℕ) (values : List Value) → NamesReference s t handle (at p) → slice_get t.objects p ≡ Some (struct ty values) → StructTyped t ty values
  struct_at_place p ty values named e =
      let stands = (stands_named p (struct ty values) named e).1.stands in
      let shape = struct_shape (slice_get t.types ty) stands.shape stands.declared stands.of_kind in
      record {
        fields = shape.fields;
        listed = shape.listed;
        struct_listed = shape.struct_listed;
        kind = shape.kind;
        count = stands.values_lie.same_count ∙ ap (λ (x : Shape). length (shape_slots layouts x stands.count)) shape.shape_is ∙ length-field_slots (struct_base layouts) shape.fields;
      }

  array_at_place : (p ty : ℕ) (values : List Value) → NamesReference s t handle (at p) → slice_get t.objects p ≡ Some (array ty values) → ArrayTyped t ty
  array_at_place p ty values named e =
      let stands = (stands_named p (array ty values) named e).1.stands in
      let shape = array_shape (slice_get t.types ty) stands.shape stands.declared stands.of_kind in
      record { element = shape.element; element_is = shape.element_is; kind = shape.kind }

  -- the type of a struct that is named
  pub struct_typed : (r : Reference) (ty : ℕ) → NamesReference s t handle r → (is : IsStruct t r ty) → StructTyped t ty is.0
  struct_typed null ty named is = absurd (none-some _ is.1)
  struct_typed (small n) ty named is = absurd (none-some _ is.1)
  struct_typed (at p) ty named is = struct_at_place p ty is.0 named is.1

  pub array_typed : (r : Reference) (which : NamedArray) → NamesReference s t handle r → IsNamedArray t r which → ArrayTyped t which.ty
  array_typed null which named is = absurd (none-some _ is.1.0)
  array_typed (small n) which named is = absurd (none-some _ is.1.0)
  array_typed (at p) which named is = array_at_place p which.ty is.0 named is.1.0

-- what is listed at an index of what is there
pub listed_at : (o : Option (List FieldType)) (fields : List FieldType) (index : ℕ) → o ≡ Some fields → option_and_then (λ (fs : List FieldType). slice_get fs index) o ≡ slice_get fields index
listed_at o fields index e = ap (λ (x : Option (List FieldType)). option_and_then (λ (fs : List FieldType). slice_get fs index) x) e

-- a field of a struct that is named, where the type has one
pub field_here : {D : Type 0} (t : Table D) (r : Reference) (ty index : ℕ) (is : IsStruct t r ty) → StructTyped t ty is.0 → (found : Option NamedField) → IsFieldOf t.types ty index found → HasField t index r found
field_here t r ty index is typed None e =
    let none : slice_get typed.fields index ≡ None = sym (listed_at (fields_at t.types ty) typed.fields index typed.listed) ∙ e in
    record {
      object = struct ty is.0;
      object_is = is.1;
      past = elim ((slice_get_cases typed.fields index).1) [
        | inl found ↦ absurd (none-some found.0 (sym none ∙ found.2))
        | inr past ↦ omega (arith, past.0, typed.count)
      ];
    }
field_here t r ty index is typed (Some named) e =
    let some : slice_get typed.fields index ≡ Some named.field = sym (listed_at (fields_at t.types ty) typed.fields index typed.listed) ∙ e.1 in
    let within = slice_get_within typed.fields index named.field some in
    let value = value_below is.0 index (omega (arith, within, typed.count)) in
    record {
      object = struct ty is.0;
      object_is = is.1;
      value = value.0;
      value_at = value.1;
      index_is = e.0;
      field_is = ap (λ (o : Option (List FieldType)). listed_type o index) typed.struct_listed ∙ some;
    }

module _ {D : Type 0} (s : StoreView D) (t : Table D) (handle : GcRootIndex) (index : ℕ) where
  -- the value that a named reference has at an index
  pub typed_at : (r : Reference) (named : NamedField) → NamesReference s t handle r → IsField t index r named → IsTypedAt s t handle index named.field
  typed_at null named names is = absurd (none-some _ is.object_is)
  typed_at (small n) named names is = absurd (none-some _ is.object_is)
  typed_at (at p) named names is = record {
    value = is.value;
    has = record { position = p; named = names; object = is.object; object_is = is.object_is; value_at = is.value_at };
    field_is = is.field_is;
  }

  -- or that it has none there
  pub outside_at : (r : Reference) → NamesReference s t handle r → IsPast t index r → IsOutside s t handle index
  outside_at null names is = absurd (none-some _ is.object_is)
  outside_at (small n) names is = absurd (none-some _ is.object_is)
  outside_at (at p) names is = record { position = p; named = names; object = is.object; object_is = is.object_is; outside = is.past }
