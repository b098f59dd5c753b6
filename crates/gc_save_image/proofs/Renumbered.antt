-- What lines say under new numbers.
use Rattle.std.proofs.Common.{◌≡◌, ◌<◌, ◌^◌, ℕ, ◌+◌, suc, List, [], ◌∷◌, ◌++◌, length, map, get_or, take, unwrap_or, Some, refl, sym, ap, ap₂, ◌∙◌}
use Rattle.std.specs.List.{slice_get, AllByRecursion}
use Rattle.std.specs.Prelude.{option_map}
use Rattle.std.proofs.lemmas.List.{length-map, map-append, take_more}
use Rattle.gc_image.proofs.ElementLemmas.{item_found}
use Rattle.gc_types.specs.Declarations.{Declaration}
use Rattle.gc_types.specs.declared.value.StorageType.{StorageType}
use Rattle.gc_types.specs.declared.value.StorageType.TheVariants as storage
use Rattle.gc_model.specs.Stored.{byte_value, stored, value_type}
use Rattle.gc_model.specs.Values.{Value, reference, at, struct, array, exception}
use Rattle.gc_image.specs.declared.image.GlobalLine.{GlobalLine}
use Rattle.gc_image.specs.declared.image.ImageReference.{ImageReference}
use Rattle.gc_image.specs.declared.image.ImageReference.TheVariants as image_reference
use Rattle.gc_image.specs.declared.image.ImageValue.{ImageValue}
use Rattle.gc_image.specs.declared.image.ImageValue.TheVariants as value
use Rattle.gc_image.specs.declared.image.ObjectLine.{ObjectLine}
use Rattle.gc_image.specs.declared.image.ObjectLine.TheVariants as object
use Rattle.gc_image.specs.Images.{placed_object, placed_reference, placed_value}
use Rattle.gc_image.specs.Text.{FitsGlobal, FitsObject, FitsImageValue}
use Rattle.gc_image.specs.Well.{HasShape, as_object, as_reference, as_value, line_values, number_named}
use Rattle.gc_image_write.specs.Order.{AreBelow, NamesBelow}
use Rattle.gc_image_write.proofs.LineBelow.{IsLineBelow}
use Rattle.gc_save_image.specs.Renumbering.{line_at, renumbered_global, renumbered_line, renumbered_reference, renumbered_value, reordered}

-- where each new number has the position of the old one, values and objects are the same
module _ (number position position' : ℕ → ℕ) (count : ℕ) (goes : (old : ℕ) → old < count → position' (number old) ≡ position old) where
  pub reference_again : (r : ImageReference) → ((old : ℕ) → r ≡ image_reference.Object old → old < count)
      → placed_reference position' (as_reference (renumbered_reference number r)) ≡ placed_reference position (as_reference r)
  reference_again image_reference.Null below = refl
  reference_again (image_reference.Small n) below = refl
  reference_again (image_reference.Object old) below = ap at (goes old (below old refl))

  pub value_again : (v : ImageValue) → NamesBelow count v → placed_value position' (as_value (renumbered_value number v)) ≡ placed_value position (as_value v)
  value_again (value.I32 n) below = refl
  value_again (value.I64 n) below = refl
  value_again (value.F32 n) below = refl
  value_again (value.F64 n) below = refl
  value_again (value.V128 n) below = refl
  value_again (value.Ref class r) below = ap (reference class) (reference_again r (λ old is. below old (ap (λ (x : ImageReference). number_named (value.Ref class x)) is)))

  values_again : (vs : List ImageValue) → AreBelow count vs
      → map (placed_value position') (map as_value (map (renumbered_value number) vs)) ≡ map (placed_value position) (map as_value vs)
  values_again [] below = refl
  values_again (v ∷ vs) below = ap₂ (λ (x : Value) (xs : List Value). x ∷ xs) (value_again v (below 0 v refl)) (values_again vs (λ k w there. below (suc k) w there))

  bytes_again : (bytes : List ℕ) → map (placed_value position') (map byte_value bytes) ≡ map (placed_value position) (map byte_value bytes)
  bytes_again [] = refl
  bytes_again (b ∷ bytes) = ap (λ (xs : List Value). byte_value b ∷ xs) (bytes_again bytes)

  pub object_again : (line : ObjectLine) → IsLineBelow count line → placed_object position' (as_object (renumbered_line number line)) ≡ placed_object position (as_object line)
  object_again (object.Struct ty values) below = ap (struct ty) (values_again values below)
  object_again (object.Array ty values) below = ap (array ty) (values_again values below)
  object_again (object.Bytes ty bytes) below = ap (array ty) (bytes_again bytes)
  object_again (object.Host n) below = refl
  object_again (object.Exn ty tag values) below = ap (exception ty tag) (values_again values below)

module _ (number : ℕ → ℕ) where
  pub values_are : (line : ObjectLine) → line_values (renumbered_line number line) ≡ map (renumbered_value number) (line_values line)
  values_are (object.Struct ty values) = refl
  values_are (object.Array ty values) = refl
  values_are (object.Bytes ty bytes) = refl
  values_are (object.Host n) = refl
  values_are (object.Exn ty tag values) = refl

  pub shape_again : (types : List Declaration) (line : ObjectLine) → HasShape types line → HasShape types (renumbered_line number line)
  shape_again types (object.Struct ty values) shape = shape ∙ ap Some (sym (length-map values (renumbered_value number)))
  shape_again types (object.Array ty values) shape = shape
  shape_again types (object.Bytes ty bytes) shape = shape
  shape_again types (object.Host n) shape = shape
  shape_again types (object.Exn ty tag values) shape = shape ∙ ap Some (sym (length-map values (renumbered_value number)))

  pub type_again : (types : List Declaration) (line : ObjectLine) (index : ℕ) → value_type types (as_object (renumbered_line number line)) index ≡ value_type types (as_object line) index
  type_again types (object.Struct ty values) index = refl
  type_again types (object.Array ty values) index = refl
  type_again types (object.Bytes ty bytes) index = refl
  type_again types (object.Host n) index = refl
  type_again types (object.Exn ty tag values) index = refl

  pub named_again : (v : ImageValue) → number_named (renumbered_value number v) ≡ option_map number (number_named v)
  named_again (value.I32 n) = refl
  named_again (value.I64 n) = refl
  named_again (value.F32 n) = refl
  named_again (value.F64 n) = refl
  named_again (value.V128 n) = refl
  named_again (value.Ref class image_reference.Null) = refl
  named_again (value.Ref class (image_reference.Small n)) = refl
  named_again (value.Ref class (image_reference.Object old)) = refl

  -- a value that is as its field keeps it is so under any numbers
  pub kept_again : (ty : StorageType) (v : ImageValue) → stored ty (as_value v) ≡ as_value v → stored ty (as_value (renumbered_value number v)) ≡ as_value (renumbered_value number v)
  kept_again ty (value.I32 n) kept = kept
  kept_again ty (value.I64 n) kept = kept
  kept_again ty (value.F32 n) kept = kept
  kept_again ty (value.F64 n) kept = kept
  kept_again ty (value.V128 n) kept = kept
  kept_again storage.I8 (value.Ref class r) kept = refl
  kept_again storage.I16 (value.Ref class r) kept = refl
  kept_again (storage.ValType ty) (value.Ref class r) kept = refl

  -- lines fit the text where the new numbers do
  module _ (count : ℕ) (small : (old : ℕ) → old < count → number old < 2 ^ 64) where
    value_fits : (v : ImageValue) → NamesBelow count v → FitsImageValue v → FitsImageValue (renumbered_value number v)
    value_fits (value.I32 n) below fit = fit
    value_fits (value.I64 n) below fit = fit
    value_fits (value.F32 n) below fit = fit
    value_fits (value.F64 n) below fit = fit
    value_fits (value.V128 n) below fit = fit
    value_fits (value.Ref class image_reference.Null) below fit = tt
    value_fits (value.Ref class (image_reference.Small n)) below fit = fit
    value_fits (value.Ref class (image_reference.Object old)) below fit = small old (below old refl)

    values_fit : (vs : List ImageValue) → AreBelow count vs → AllByRecursion FitsImageValue vs → AllByRecursion FitsImageValue (map (renumbered_value number) vs)
    values_fit [] below fit = tt
    values_fit (v ∷ vs) below fit = (value_fits v (below 0 v refl) fit.0, values_fit vs (λ k w there. below (suc k) w there) fit.1)

    pub line_fits : (line : ObjectLine) → IsLineBelow count line → FitsObject line → FitsObject (renumbered_line number line)
    line_fits (object.Struct ty values) below fit = (fit.0, values_fit values below fit.1)
    line_fits (object.Array ty values) below fit = (fit.0, values_fit values below fit.1)
    line_fits (object.Bytes ty bytes) below fit = fit
    line_fits (object.Host n) below fit = fit
    line_fits (object.Exn ty tag values) below fit = (fit.0, fit.1, fit.2, values_fit values below fit.3)

    pub global_fits : (lines : List GlobalLine) → ((i : ℕ) (line : GlobalLine) → slice_get lines i ≡ Some line → NamesBelow count line.value) → AllByRecursion FitsGlobal lines
        → AllByRecursion FitsGlobal (map (renumbered_global number) lines)
    global_fits [] below fit = tt
    global_fits (line ∷ lines) below fit = ((fit.0.0, value_fits line.value (below 0 line refl) fit.0.1), global_fits lines (λ i x there. below (suc i) x there) fit.1)

-- one more line in an order
pub line_more : (number : ℕ → ℕ) (objects : List ObjectLine) (order : List ℕ) (i : ℕ) (lines new : List ObjectLine) (old line : ObjectLine) → i < length order → get_or order i 0 < length objects
    → lines ≡ reordered number objects (take i order) → old ≡ get_or objects (get_or order i 0) old → line ≡ renumbered_line number old → new ≡ lines ++ line ∷ []
    → new ≡ reordered number objects (take (i + 1) order)
line_more number objects order i lines new old line inside there so_far old_is line_is new_is =
    let x = get_or order i 0 in
    let found : old ≡ line_at objects x = ap (λ o. unwrap_or o (object.Host 0)) (sym (item_found objects x old there old_is)) in
    new_is
    ∙ ap₂ (λ (ls : List ObjectLine) (l : ObjectLine). ls ++ l ∷ []) so_far (line_is ∙ ap (renumbered_line number) found)
    ∙ sym (map-append (λ o. renumbered_line number (line_at objects o)) (take i order) (x ∷ []))
    ∙ ap (reordered number objects) (sym (take_more order i 0 inside))
