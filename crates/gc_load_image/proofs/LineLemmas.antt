-- The object of a line may be placed with its values, and is this one.
use Rattle.std.proofs.Common.{◌≡◌, ℕ, suc, true, false, List, [], ◌∷◌, map, length, Option, Some, None, refl, sym, ap, ap₂, ◌∙◌, subst, arith}
use Rattle.std.specs.Prelude.{option_map, unwrap_or}
use Rattle.std.specs.List.{slice_get}
use Rattle.std.proofs.lemmas.List.{length-map}
use Rattle.std.proofs.lemmas.Option.{none-some, same_Some, slice_get-map}
use Rattle.gc_types.specs.declared.kind.Layouts.{Layouts}
use Rattle.gc_types.specs.declared.value.FieldType.{FieldType}
use Rattle.gc_types.specs.declared.value.StorageType.{StorageType}
use Rattle.gc_types.specs.Declarations.{Declaration, elem_at, struct_fields_at}
use Rattle.gc_model.specs.Fits.{fits}
use Rattle.gc_model.specs.Holds.{HoldsTable}
use Rattle.gc_model.specs.Sizes.{exn_fields_at}
use Rattle.gc_model.specs.Stored.{listed_type, stored, stored_in, value_type}
use Rattle.gc_model.specs.Stores.{StoreView}
use Rattle.gc_model.specs.Table.{Table}
use Rattle.gc_model.specs.Values.{Value, struct, array, exception}
use Rattle.gc_model.proofs.Lists.{slice_get-same_length}
use Rattle.gc_values.specs.declared.root.RawValue.{RawValue}
use Rattle.gc_store.specs.Requests.{CanPlaceFields, element_of, exn_fields_of, struct_fields_of, stored_as}
use Rattle.gc_store.specs.Values.{AllStand, CanStore}
use Rattle.gc_image.specs.declared.image.ImageValue.{ImageValue}
use Rattle.gc_image.specs.declared.image.ObjectLine.{ObjectLine}
use Rattle.gc_image.specs.declared.image.ObjectLine.TheVariants as object
use Rattle.gc_image.specs.Well.{IsPacked, IsWellObject, as_object, as_value, line_values}
use Rattle.gc_load_image.specs.Stages.{CanPlaceLine, IsLineObject, early_object, early_value}
use Rattle.gc_load_image.proofs.EarlyLemmas.{AreMade, early_fits, early_stored}
use Rattle.gc_load_image.proofs.FitsAlike.{can_store}
use Rattle.gc_load_image.proofs.SizeLemmas.{some_element}

-- there are fields, so many
some_fields : (found : Option (List FieldType)) (n : ℕ) → option_map length found ≡ Some n → (fs : List FieldType) × ((found ≡ Some fs) × (length fs ≡ n))
some_fields None n is = absurd (cc)
some_fields (Some fs) n is = (fs, (refl, same_Some (length fs) n is))

stored_same : (fields : List FieldType) (vs : List Value) → length fields ≡ length vs → ((i : ℕ) (field : FieldType) (v : Value) → slice_get fields i ≡ Some field → slice_get vs i ≡ Some v → stored field.element_type v ≡ v) → stored_in fields vs ≡ vs
stored_same [] [] same each = refl
stored_same [] (v ∷ vs) same each = absurd (omega (arith, same))
stored_same (field ∷ fields) [] same each = absurd (omega (arith, same))
stored_same (field ∷ fields) (v ∷ vs) same each = ap₂ (λ x xs. x ∷ xs) (each 0 field v refl refl) (stored_same fields vs (omega (arith, same)) (λ i. each (suc i)))

mapped_same : (ty : StorageType) (vs : List Value) → ((i : ℕ) (v : Value) → slice_get vs i ≡ Some v → stored ty v ≡ v) → map (stored ty) vs ≡ vs
mapped_same ty [] each = refl
mapped_same ty (v ∷ vs) each = ap₂ (λ x xs. x ∷ xs) (each 0 v refl) (mapped_same ty vs (λ i. each (suc i)))

module _ (layouts : Layouts) (s : StoreView ℕ) (t : Table ℕ) (holds : HoldsTable layouts s t) (lines : List ObjectLine) (k : ℕ) (made : AreMade lines k t.objects) where
  abbrev types : List Declaration
  types = s.types

  same_types : s.types ≡ t.types
  same_types = holds.1.types

  module _ (line : ObjectLine) (well : IsWellObject s.types (map as_object lines) k line) where
    -- a value of the line
    value_of : (i : ℕ) (w : Value) → slice_get (map (early_value k) (line_values line)) i ≡ Some w → (v : ImageValue) × ((slice_get (line_values line) i ≡ Some v) × (w ≡ early_value k v))
    value_of i w e = by (slice_get (line_values line) i) refl
      where
        by : (o : Option ImageValue) → slice_get (line_values line) i ≡ o → (v : ImageValue) × ((slice_get (line_values line) i ≡ Some v) × (w ≡ early_value k v))
        by None is = absurd (none-some w (sym (slice_get-map (early_value k) (line_values line) i ∙ ap (option_map (early_value k)) is) ∙ e))
        by (Some v) is = (v, (is, same_Some w (early_value k v) (sym e ∙ slice_get-map (early_value k) (line_values line) i ∙ ap (option_map (early_value k)) is)))

    field_of : (i : ℕ) (field : FieldType) (v : ImageValue) → value_type s.types (as_object line) i ≡ Some field → (is : slice_get (line_values line) i ≡ Some v) → (well.values i v is).field ≡ field
    field_of i field v e is = same_Some (well.values i v is).field field (sym (well.values i v is).field_is ∙ e)

    -- is kept as it is
    kept_same : (i : ℕ) (field : FieldType) (w : Value) → value_type s.types (as_object line) i ≡ Some field → slice_get (map (early_value k) (line_values line)) i ≡ Some w → stored field.element_type w ≡ w
    kept_same i field w e at =
        let v = value_of i w at in
        let is = (well.values i v.0 v.1.0).is_stored in
        let here : stored field.element_type (as_value v.0) ≡ as_value v.0 = subst (λ (f : FieldType). stored f.element_type (as_value v.0) ≡ as_value v.0) (field_of i field v.0 e v.1.0) is in
        subst (λ (x : Value). stored field.element_type x ≡ x) (sym v.1.1) (early_stored field.element_type k v.0 here)

    module _ (raws : List RawValue) (stand : AllStand s t raws (map (early_value k) (line_values line))) where
      -- and may be stored
      value_can : (i : ℕ) (field : FieldType) (r : RawValue) → value_type s.types (as_object line) i ≡ Some field → slice_get raws i ≡ Some r → CanStore ℕ layouts s field.element_type r
      value_can i field r e at =
          let w = slice_get-same_length raws (map (early_value k) (line_values line)) i r stand.same_count at in
          let v = value_of i w.0 w.1 in
          let one = well.values i v.0 v.1.0 in
          let same = field_of i field v.0 e v.1.0 in
          let goes : fits s.types t.objects one.field.element_type (early_value k v.0) ≡ true = early_fits s.types lines t.objects k made one.field v.0 one.is_fit one.early in
          let here : fits t.types t.objects field.element_type w.0 ≡ true =
          subst (λ (ts : List Declaration). fits ts t.objects field.element_type w.0 ≡ true) same_types
          (subst (λ (f : FieldType). fits s.types t.objects f.element_type w.0 ≡ true) same (ap (fits s.types t.objects one.field.element_type) v.1.1 ∙ goes)) in
          can_store layouts s t holds field.element_type r w.0 (stand.each i r w.0 at w.1) here

      count_is : length raws ≡ length (line_values line)
      count_is = stand.same_count ∙ length-map (line_values line) (early_value k)

      -- so may fields
      fields_can : (found : Option (List FieldType)) → option_map length found ≡ Some (length (line_values line)) → ((i : ℕ) (fs : List FieldType) → found ≡ Some fs → value_type s.types (as_object line) i ≡ slice_get fs i) → CanPlaceFields ℕ layouts s found raws
      fields_can found shape typed =
          let fs = some_fields found (length (line_values line)) shape in
          record {
            fields = fs.0;
            declared = fs.1.0;
            same_count = count_is ∙ sym fs.1.1;
            each = λ i field r e at. value_can i field r (typed i fs.0 fs.1.0 ∙ e) at;
          }

      fields_kept : (found : Option (List FieldType)) → option_map length found ≡ Some (length (line_values line)) → ((i : ℕ) (fs : List FieldType) → found ≡ Some fs → value_type s.types (as_object line) i ≡ slice_get fs i)
          → stored_in (unwrap_or found []) (map (early_value k) (line_values line)) ≡ map (early_value k) (line_values line)
      fields_kept found shape typed =
          let fs = some_fields found (length (line_values line)) shape in
          ap (λ (o : Option (List FieldType)). stored_in (unwrap_or o []) (map (early_value k) (line_values line))) fs.1.0
          ∙ stored_same fs.0 (map (early_value k) (line_values line)) (fs.1.1 ∙ sym (length-map (line_values line) (early_value k))) (λ i field w e at. kept_same i field w (typed i fs.0 fs.1.0 ∙ e) at)

  -- the object of a line
  pub line_can : (line : ObjectLine) → IsWellObject s.types (map as_object lines) k line → (raws : List RawValue) → AllStand s t raws (map (early_value k) (line_values line)) → CanPlaceLine layouts s line raws
  line_can (object.Struct ty values) well raws stand =
      fields_can (object.Struct ty values) well raws stand (struct_fields_at s.types ty) well.shape (λ i fs e. ap (λ (o : Option (List FieldType)). listed_type o i) e)
  line_can (object.Array ty values) well raws stand =
      let some = some_element (elem_at s.types ty) false well.shape in
      record { element = some.0; declared = some.1; same_count = refl; each = λ i r at. value_can (object.Array ty values) well raws stand i some.0 r some.1 at }
  line_can (object.Bytes ty bytes) well raws stand =
      let some = some_element (elem_at s.types ty) true well.shape in
      record { element = some.0; declared = some.1; of_bytes = subst (λ (o : Option FieldType). IsPacked o true) some.1 well.shape; same_count = refl }
  line_can (object.Host n) well raws stand = tt
  line_can (object.Exn ty tag values) well raws stand =
      fields_can (object.Exn ty tag values) well raws stand (exn_fields_at s.types ty) well.shape (λ i fs e. ap (λ (o : Option (List FieldType)). listed_type o i) e)

  pub line_is : (line : ObjectLine) → IsWellObject s.types (map as_object lines) k line → (raws : List RawValue) → AllStand s t raws (map (early_value k) (line_values line)) → IsLineObject s t line raws (early_object k line)
  line_is (object.Struct ty values) well raws stand = (
    map (early_value k) values,
    (
      stand,
      ap (struct ty) (sym (ap (λ (ts : List Declaration). stored_in (struct_fields_of ts ty) (map (early_value k) values)) (sym same_types)
          ∙ fields_kept (object.Struct ty values) well raws stand (struct_fields_at s.types ty) well.shape (λ i fs e. ap (λ (o : Option (List FieldType)). listed_type o i) e))),
    ),
  )
  line_is (object.Array ty values) well raws stand =
      let some = some_element (elem_at s.types ty) false well.shape in (
        map (early_value k) values,
        (
          stand,
          ap (array ty) (sym (ap (λ (ts : List Declaration). map (stored (element_of ts ty)) (map (early_value k) values)) (sym same_types)
              ∙ ap (λ (o : Option FieldType). map (stored (stored_as o)) (map (early_value k) values)) some.1
              ∙ mapped_same some.0.element_type (map (early_value k) values) (λ i w at. kept_same (object.Array ty values) well i some.0 w some.1 at))),
        ),
      )
  line_is (object.Bytes ty bytes) well raws stand = refl
  line_is (object.Host n) well raws stand = refl
  line_is (object.Exn ty tag values) well raws stand = (
    map (early_value k) values,
    (
      stand,
      ap (exception ty tag) (sym (ap (λ (ts : List Declaration). stored_in (exn_fields_of ts ty) (map (early_value k) values)) (sym same_types)
          ∙ fields_kept (object.Exn ty tag values) well raws stand (exn_fields_at s.types ty) well.shape (λ i fs e. ap (λ (o : Option (List FieldType)). listed_type o i) e))),
    ),
  )
