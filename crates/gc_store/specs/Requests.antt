-- Requests for an object: which may be placed, and which object of the table each asks for.
use Rattle.std.specs.Prelude.{◌≡◌, ℕ, ◌<◌, List, [], Option, Some, None, map, length, replicate, slice_get, unwrap_or}
use Rattle.gc_types.specs.declared.value.FieldType.{FieldType}
use Rattle.gc_types.specs.declared.value.StorageType.{StorageType}
use Rattle.gc_types.specs.declared.value.StorageType.TheVariants as storage
use Rattle.gc_types.specs.declared.kind.Layouts.{Layouts}
use Rattle.gc_types.specs.Declarations.{Declaration, struct_fields_at, elem_at}
use Rattle.gc_model.specs.Values.{Value, Object, struct, array, exception}
use Rattle.gc_model.specs.Sizes.{exn_fields_at}
use Rattle.gc_model.specs.Stored.{stored, stored_in, byte_value}
use Rattle.gc_model.specs.Table.{Table}
use Rattle.gc_model.specs.Stores.{StoreView}
use Rattle.gc_values.specs.declared.request.Place.{Place}
use Rattle.gc_values.specs.declared.request.Place.TheVariants as place
use Rattle.gc_values.specs.declared.request.Contents.{Contents}
use Rattle.gc_values.specs.declared.request.Contents.TheVariants as contents
use Rattle.gc_values.specs.declared.root.RawValue.{RawValue}
use Rattle.gc_store.specs.Values.{RawStands, AllStand, CanStore}

-- the fields of a struct type; none where there is no such type
abbrev pub struct_fields_of : List Declaration → ℕ → List FieldType
struct_fields_of types ty = unwrap_or (struct_fields_at types ty) []

-- what an array type's elements are stored as
abbrev pub stored_as : Option FieldType → StorageType
stored_as None = storage.I8
stored_as (Some element) = element.element_type

abbrev pub element_of : List Declaration → ℕ → StorageType
element_of types ty = stored_as (elem_at types ty)

-- the fields of an exception type; none where there is no such type
abbrev pub exn_fields_of : List Declaration → ℕ → List FieldType
exn_fields_of types ty = unwrap_or (exn_fields_at types ty) []

-- an object with the fields of a declared type may have these values, one for each field
pub record CanPlaceFields (D : Type 0) (layouts : Layouts) (s : StoreView D) (found : Option (List FieldType)) (raws : List RawValue) : Type 0 where
  pub fields : List FieldType
  pub declared : found ≡ Some fields
  pub same_count : length raws ≡ length fields
  pub each : (i : ℕ) (field : FieldType) (r : RawValue) → slice_get fields i ≡ Some field → slice_get raws i ≡ Some r
      → CanStore D layouts s field.element_type r

-- so a struct may, and an exception
abbrev pub CanPlaceStruct : (D : Type 0) → Layouts → StoreView D → ℕ → List RawValue → Type 0
CanPlaceStruct D layouts s ty raws = CanPlaceFields D layouts s (struct_fields_at s.types ty) raws

abbrev pub CanPlaceException : (D : Type 0) → Layouts → StoreView D → ℕ → List RawValue → Type 0
CanPlaceException D layouts s ty raws = CanPlaceFields D layouts s (exn_fields_at s.types ty) raws

-- so many values may be the elements of an array of a declared type
pub record CanPlaceElements (D : Type 0) (layouts : Layouts) (s : StoreView D) (ty count : ℕ) (raws : List RawValue) : Type 0 where
  pub element : FieldType
  pub declared : elem_at s.types ty ≡ Some element
  pub same_count : length raws ≡ count
  pub each : (i : ℕ) (r : RawValue) → slice_get raws i ≡ Some r → CanStore D layouts s element.element_type r

-- one value may be each element of an array of a declared type; it isn't looked at where there are none
pub record CanPlaceSame (D : Type 0) (layouts : Layouts) (s : StoreView D) (ty count : ℕ) (r : RawValue) : Type 0 where
  pub element : FieldType
  pub declared : elem_at s.types ty ≡ Some element
  pub fits : 0 < count → CanStore D layouts s element.element_type r

-- so many bytes may be the elements of an array of a declared type
pub record CanPlaceBytes {D : Type 0} (s : StoreView D) (ty count : ℕ) (bytes : List ℕ) : Type 0 where
  pub element : FieldType
  pub declared : elem_at s.types ty ≡ Some element
  pub of_bytes : element.element_type ≡ storage.I8
  pub same_count : length bytes ≡ count

-- An object that is requested so may be placed: a struct or an exception with a value for each field, or an array.
abbrev pub CanPlaceIn : (D : Type 0) → Layouts → StoreView D → Place → Contents → Type 0
CanPlaceIn D layouts s (place.Struct ty) (contents.Each values) = CanPlaceStruct D layouts s ty values.now
CanPlaceIn D layouts s (place.Struct ty) (contents.Same value) = ⊥
CanPlaceIn D layouts s (place.Struct ty) (contents.Bytes bytes) = ⊥
CanPlaceIn D layouts s (place.Exn ty tag) (contents.Each values) = CanPlaceException D layouts s ty values.now
CanPlaceIn D layouts s (place.Exn ty tag) (contents.Same value) = ⊥
CanPlaceIn D layouts s (place.Exn ty tag) (contents.Bytes bytes) = ⊥
CanPlaceIn D layouts s (place.Array ty count) (contents.Each values) = CanPlaceElements D layouts s ty count values.now
CanPlaceIn D layouts s (place.Array ty count) (contents.Same value) = CanPlaceSame D layouts s ty count value.now
CanPlaceIn D layouts s (place.Array ty count) (contents.Bytes bytes) = CanPlaceBytes s ty count bytes.now

-- what is asked for by one value for so many elements
abbrev pub IsFilled : {D : Type 0} → StoreView D → Table D → ℕ → ℕ → RawValue → Object D → Type 0
IsFilled s t ty count r o = (v : Value) × ((0 < count → RawStands s t r v) × (o ≡ array ty (replicate count (stored (element_of t.types ty) v))))

-- the object of the table that is requested so
abbrev pub IsObjectOf : {D : Type 0} → StoreView D → Table D → Place → Contents → Object D → Type 0
IsObjectOf s t (place.Struct ty) (contents.Each values) o = (vs : List Value)
    × (AllStand s t values.now vs × (o ≡ struct ty (stored_in (struct_fields_of t.types ty) vs)))
IsObjectOf s t (place.Struct ty) (contents.Same value) o = ⊥
IsObjectOf s t (place.Struct ty) (contents.Bytes bytes) o = ⊥
IsObjectOf s t (place.Exn ty tag) (contents.Each values) o = (vs : List Value)
    × (AllStand s t values.now vs × (o ≡ exception ty tag (stored_in (exn_fields_of t.types ty) vs)))
IsObjectOf s t (place.Exn ty tag) (contents.Same value) o = ⊥
IsObjectOf s t (place.Exn ty tag) (contents.Bytes bytes) o = ⊥
IsObjectOf s t (place.Array ty count) (contents.Each values) o = (vs : List Value)
    × (AllStand s t values.now vs × (o ≡ array ty (map (stored (element_of t.types ty)) vs)))
IsObjectOf s t (place.Array ty count) (contents.Same value) o = IsFilled s t ty count value.now o
IsObjectOf s t (place.Array ty count) (contents.Bytes bytes) o = o ≡ array ty (map byte_value bytes.now)
