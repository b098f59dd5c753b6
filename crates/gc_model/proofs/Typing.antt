-- The values of a table's objects fit their types after each change of the table.
use Rattle.std.proofs.Common.{◌≡◌, ℕ, ◌<◌, inl, inr, List, [], ◌∷◌, ◌++◌, length, Option, Some, None, refl, sym, ap, ◌∙◌, subst, arith}
use Rattle.std.specs.List.{slice_get}
use Rattle.std.specs.Prelude.{slice_set, option_and_then}
use Rattle.std.proofs.lemmas.Bool.{cases_eq}
use Rattle.std.proofs.lemmas.List.{length-set}
use Rattle.std.proofs.lemmas.Option.{none-some, slice_get_within}
use Rattle.gc_types.specs.declared.value.FieldType.{FieldType}
use Rattle.gc_types.specs.Declarations.{Declaration, declaration_struct_fields, declaration_elem}
use Rattle.gc_model.specs.Values.{Value, Object, struct, array, host, exception}
use Rattle.gc_model.specs.Holds.{IsTypedValue, TypedBy}
use Rattle.gc_model.specs.Reach.{object_values}
use Rattle.gc_model.specs.Sizes.{shape_exn_fields}
use Rattle.gc_model.specs.Stored.{listed_type, value_type}
use Rattle.gc_model.specs.Table.{change_at, with_value}
use Rattle.gc_model.proofs.Changes.{slice_get-change_at_same, slice_get-change_at_other, slice_get-set_same, slice_get-set_other}
use Rattle.gc_model.proofs.Fitting.{fits-more_types, fits-more_objects, fits-written}
use Rattle.gc_model.proofs.Lists.{slice_get-push_cases}
use Rattle.gc_model.proofs.Types.{slice_get-declared}

-- what a declared type says, it says with more types behind it
said_again : (f : Option Declaration → Option FieldType) (types : List Declaration) (d : Declaration) (ty : ℕ) (field : FieldType) → f None ≡ None → f (slice_get types ty) ≡ Some field → f (slice_get (types ++ d ∷ []) ty) ≡ Some field
said_again f types d ty field nothing e = by (slice_get types ty) refl
  where
    by : (x : Option Declaration) → slice_get types ty ≡ x → f (slice_get (types ++ d ∷ []) ty) ≡ Some field
    by None is = absurd (none-some field (sym nothing ∙ ap f (sym is) ∙ e))
    by (Some x) is = ap f (slice_get-declared types d ty x is) ∙ e

pub value_type-push : {D : Type 0} (types : List Declaration) (d : Declaration) (o : Object D) (index : ℕ) (field : FieldType) → value_type types o index ≡ Some field → value_type (types ++ d ∷ []) o index ≡ Some field
value_type-push types d (struct ty values) index field e = said_again (λ x. listed_type (declaration_struct_fields x) index) types d ty field refl e
value_type-push types d (array ty values) index field e = said_again declaration_elem types d ty field refl e
value_type-push types d (host value) index field e = e
value_type-push types d (exception ty tag values) index field e = said_again (λ x. listed_type (option_and_then (λ (y : Declaration). shape_exn_fields y.shape) x) index) types d ty field refl e

-- another value in an object leaves the types of its values
pub value_type-with_value : {D : Type 0} (types : List Declaration) (k : ℕ) (v : Value) (o : Object D) (index : ℕ) → value_type types (with_value k v o) index ≡ value_type types o index
value_type-with_value types k v (struct ty values) index = refl
value_type-with_value types k v (array ty values) index = refl
value_type-with_value types k v (host value) index = refl
value_type-with_value types k v (exception ty tag values) index = refl

values-with_value : {D : Type 0} (k : ℕ) (v : Value) (o : Object D) → object_values (with_value k v o) ≡ slice_set (object_values o) k v
values-with_value k v (struct ty values) = refl
values-with_value k v (array ty values) = refl
values-with_value k v (host value) = refl
values-with_value k v (exception ty tag values) = refl

-- all values of an object fit their types
abbrev pub IsTypedObject : {D : Type 0} → List Declaration → List (Object D) → Object D → Type 0
IsTypedObject types objects o = (index : ℕ) (value : Value) → slice_get (object_values o) index ≡ Some value → IsTypedValue types objects o index value

module _ {D : Type 0} (types : List Declaration) (objects : List (Object D)) (typed : TypedBy types objects) where
  -- with one more type
  pub typed-declared : (d : Declaration) → TypedBy (types ++ d ∷ []) objects
  typed-declared d position index o value e f =
      let was = typed position index o value e f in
      record {
        field = was.field;
        field_is = value_type-push types d o index was.field was.field_is;
        is_fit = fits-more_types types objects d was.field.element_type value was.is_fit;
      }

  -- with one more object, whose values fit
  pub typed-made : (o : Object D) → IsTypedObject types objects o → TypedBy types (objects ++ o ∷ [])
  typed-made o fit position index x value e f = again (elim (slice_get-push_cases objects o position x e) [
    | inl old ↦ typed position index x value old f
    | inr new ↦ subst (λ (y : Object D). IsTypedValue types objects y index value) new.1 (fit index value (ap (λ (y : Object D). slice_get (object_values y) index) new.1 ∙ f))
  ])
    where
      again : IsTypedValue types objects x index value → IsTypedValue types (objects ++ o ∷ []) x index value
      again was = record { field = was.field; field_is = was.field_is; is_fit = fits-more_objects types objects o was.field.element_type value was.is_fit }

  -- with another value in an object, which fits
  module _ (position k : ℕ) (v : Value) (o : Object D) (object_is : slice_get objects position ≡ Some o) (fit : IsTypedValue types objects o k v) where
    abbrev objects' : List (Object D)
    objects' = change_at position (with_value k v) objects

    fits_again : (x : Object D) (index : ℕ) (value : Value) → IsTypedValue types objects x index value → IsTypedValue types objects' x index value
    fits_again x index value was = record { field = was.field; field_is = was.field_is; is_fit = fits-written types objects position k v was.field.element_type value was.is_fit }

    value_now : (index : ℕ) (value : Value) → slice_get (object_values (with_value k v o)) index ≡ Some value → IsTypedValue types objects o index value
    value_now index value e =
        let at : slice_get (slice_set (object_values o) k v) index ≡ Some value = ap (λ (vs : List Value). slice_get vs index) (sym (values-with_value k v o)) ∙ e in
        elim (cases_eq index k) [
          | inl same ↦
              let inside : k < length (object_values o) = omega (arith, slice_get_within (slice_set (object_values o) k v) index value at, length-set (object_values o) k v, same) in
              let both : Some v ≡ Some value = sym (slice_get-set_same (object_values o) k v inside) ∙ ap (slice_get (slice_set (object_values o) k v)) (sym same) ∙ at in
              let is : v ≡ value = grind (arith, both) in
              subst (λ (i : ℕ). IsTypedValue types objects o i value) (sym same) (subst (λ (w : Value). IsTypedValue types objects o k w) is fit)
          | inr differ ↦ typed position index o value object_is (sym (slice_get-set_other (object_values o) k index v differ) ∙ at)
        ]

    pub typed-written : TypedBy types objects'
    typed-written p index x value e f = elim (cases_eq p position) [
      | inl same ↦
          let both : Some (with_value k v o) ≡ Some x = sym (slice_get-change_at_same position (with_value k v) objects o object_is) ∙ ap (slice_get objects') (sym same) ∙ e in
          let is : with_value k v o ≡ x = grind (arith, both) in
          let now = value_now index value (ap (λ (y : Object D). slice_get (object_values y) index) is ∙ f) in
          subst (λ (y : Object D). IsTypedValue types objects' y index value) is
          (fits_again (with_value k v o) index value (record { field = now.field; field_is = value_type-with_value types k v o index ∙ now.field_is; is_fit = now.is_fit }))
      | inr differ ↦ fits_again x index value (typed p index x value (sym (slice_get-change_at_other position (with_value k v) objects p differ) ∙ e) f)
    ]
