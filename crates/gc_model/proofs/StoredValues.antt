-- What fields and elements keep of values in order, and that it fits them.
use Rattle.std.proofs.Common.{◌≡◌, ℕ, zero, suc, ◌<◌, List, [], ◌∷◌, map, length, true, Option, Some, refl, sym, ap, ◌∙◌, arith}
use Rattle.std.specs.List.{slice_get}
use Rattle.std.specs.Prelude.{replicate}
use Rattle.std.proofs.lemmas.List.{length-replicate}
use Rattle.std.proofs.lemmas.Option.{none-some, slice_get_within}
use Rattle.gc_types.specs.declared.value.FieldType.{FieldType}
use Rattle.gc_types.specs.declared.value.Tag.{Tag}
use Rattle.gc_types.specs.declared.value.StorageType.{StorageType}
use Rattle.gc_types.specs.declared.value.StorageType.TheVariants as storage
use Rattle.gc_types.specs.Declarations.{Declaration, struct_fields_at, elem_at}
use Rattle.gc_model.specs.Values.{Value, Object, struct, array, exception}
use Rattle.gc_model.specs.Fits.{fits}
use Rattle.gc_model.specs.Sizes.{exn_fields_at}
use Rattle.gc_model.specs.Stored.{stored, stored_in, byte_value, listed_type}
use Rattle.gc_model.proofs.Fitting.{fits-stored}
use Rattle.gc_model.proofs.Typing.{IsTypedObject}

-- what the field at an index keeps of the value there
pub stored_at : (fields : List FieldType) (values : List Value) (i : ℕ) (field : FieldType) (v : Value) → slice_get fields i ≡ Some field → slice_get values i ≡ Some v → slice_get (stored_in fields values) i ≡ Some (stored field.element_type v)
stored_at [] values i field v e f = absurd (none-some field e)
stored_at (x ∷ fields) [] i field v e f = absurd (none-some v f)
stored_at (x ∷ fields) (w ∷ values) zero field v e f =
    let fields_same : x ≡ field = grind (arith, e) in
    let values_same : w ≡ v = grind (arith, f) in
    λ i. Some (stored (fields_same i).element_type (values_same i))
stored_at (x ∷ fields) (w ∷ values) (suc i) field v e f = stored_at fields values i field v e f

pub length-stored_in : (fields : List FieldType) (values : List Value) → length values ≡ length fields → length (stored_in fields values) ≡ length fields
length-stored_in [] values same = refl
length-stored_in (x ∷ fields) [] same = absurd (omega (arith, same))
length-stored_in (x ∷ fields) (v ∷ values) same = ap suc (length-stored_in fields values (omega (arith, same)))

-- A value that is kept, with the field that keeps it and what it was.
pub record KeptValue (fields : List FieldType) (values : List Value) (i : ℕ) (kept : Value) : Type 0 where
  pub field : FieldType
  pub value : Value
  pub field_is : slice_get fields i ≡ Some field
  pub value_is : slice_get values i ≡ Some value
  pub kept_is : kept ≡ stored field.element_type value

pub kept_value : (fields : List FieldType) (values : List Value) (i : ℕ) (kept : Value) → slice_get (stored_in fields values) i ≡ Some kept → KeptValue fields values i kept
kept_value [] values i kept e = absurd (none-some kept e)
kept_value (x ∷ fields) [] i kept e = absurd (none-some kept e)
kept_value (x ∷ fields) (v ∷ values) zero kept e = record { field = x; value = v; field_is = refl; value_is = refl; kept_is = let same : stored x.element_type v ≡ kept = grind (arith, e) in sym same }
kept_value (x ∷ fields) (v ∷ values) (suc i) kept e =
    let rest = kept_value fields values i kept e in
    record { field = rest.field; value = rest.value; field_is = rest.field_is; value_is = rest.value_is; kept_is = rest.kept_is }

-- an element of a list that a function was applied to
pub record MappedFrom {A B : Type 0} (f : A → B) (xs : List A) (i : ℕ) (y : B) : Type 0 where
  pub element : A
  pub there : slice_get xs i ≡ Some element
  pub is : f element ≡ y

pub mapped_from : {A B : Type 0} (f : A → B) (xs : List A) (i : ℕ) (y : B) → slice_get (map f xs) i ≡ Some y → MappedFrom f xs i y
mapped_from f [] i y e = absurd (none-some y e)
mapped_from f (x ∷ xs) zero y e = record { element = x; there = refl; is = grind (arith, e) }
mapped_from f (x ∷ xs) (suc i) y e = let rest = mapped_from f xs i y e in record { element = rest.element; there = rest.there; is = rest.is }

-- an element of a list of one element many times
pub replicated : {A : Type 0} (n : ℕ) (x : A) (i : ℕ) (y : A) → slice_get (replicate n x) i ≡ Some y → x ≡ y
replicated zero x i y e = absurd (none-some y e)
replicated (suc n) x zero y e = grind (arith, e)
replicated (suc n) x (suc i) y e = replicated n x i y e

module _ {D : Type 0} (types : List Declaration) (objects : List (Object D)) (ty : ℕ) where
  -- the values of a struct that keeps values that fit its fields
  pub typed-struct : (fields : List FieldType) (values : List Value) → struct_fields_at types ty ≡ Some fields
      → ((i : ℕ) (field : FieldType) (v : Value) → slice_get fields i ≡ Some field → slice_get values i ≡ Some v → fits types objects field.element_type v ≡ true)
      → IsTypedObject types objects (struct ty (stored_in fields values))
  typed-struct fields values declared fit index value e =
      let kept = kept_value fields values index value e in
      record {
        field = kept.field;
        field_is = ap (λ (fs : Option (List FieldType)). listed_type fs index) declared ∙ kept.field_is;
        is_fit =
            ap (fits types objects kept.field.element_type) kept.kept_is
            ∙ fits-stored types objects kept.field.element_type kept.value (fit index kept.field kept.value kept.field_is kept.value_is);
      }

  -- and of an exception
  pub typed-exception : (tag : Tag) (fields : List FieldType) (values : List Value) → exn_fields_at types ty ≡ Some fields
      → ((i : ℕ) (field : FieldType) (v : Value) → slice_get fields i ≡ Some field → slice_get values i ≡ Some v → fits types objects field.element_type v ≡ true)
      → IsTypedObject types objects (exception ty tag (stored_in fields values))
  typed-exception tag fields values declared fit index value e =
      let kept = kept_value fields values index value e in
      record {
        field = kept.field;
        field_is = ap (λ (fs : Option (List FieldType)). listed_type fs index) declared ∙ kept.field_is;
        is_fit =
            ap (fits types objects kept.field.element_type) kept.kept_is
            ∙ fits-stored types objects kept.field.element_type kept.value (fit index kept.field kept.value kept.field_is kept.value_is);
      }

  -- those of an array
  pub typed-array : (element : FieldType) (values : List Value) → elem_at types ty ≡ Some element → ((i : ℕ) (v : Value) → slice_get values i ≡ Some v → fits types objects element.element_type v ≡ true)
      → IsTypedObject types objects (array ty (map (stored element.element_type) values))
  typed-array element values declared fit index value e =
      let from = mapped_from (stored element.element_type) values index value e in
      record {
        field = element;
        field_is = declared;
        is_fit = ap (fits types objects element.element_type) (sym from.is) ∙ fits-stored types objects element.element_type from.element (fit index from.element from.there);
      }

  -- of an array whose elements all are one value
  pub typed-filled : (element : FieldType) (n : ℕ) (v : Value) → elem_at types ty ≡ Some element → (0 < n → fits types objects element.element_type v ≡ true) → IsTypedObject types objects (array ty (replicate n (stored element.element_type v)))
  typed-filled element n v declared fit index value e =
      let is = replicated n (stored element.element_type v) index value e in
      let some : 0 < n = omega (arith, slice_get_within (replicate n (stored element.element_type v)) index value e, length-replicate n (stored element.element_type v)) in
      record {
        field = element;
        field_is = declared;
        is_fit = ap (fits types objects element.element_type) (sym is) ∙ fits-stored types objects element.element_type v (fit some);
      }

  -- and of an array of bytes
  pub typed-bytes : (element : FieldType) (bytes : List ℕ) → elem_at types ty ≡ Some element → element.element_type ≡ storage.I8 → IsTypedObject types objects (array ty (map byte_value bytes))
  typed-bytes element bytes declared of_bytes index value e =
      let from = mapped_from byte_value bytes index value e in
      record {
        field = element;
        field_is = declared;
        is_fit = ap (λ (st : StorageType). fits types objects st value) of_bytes ∙ ap (fits types objects storage.I8) (sym from.is);
      }
