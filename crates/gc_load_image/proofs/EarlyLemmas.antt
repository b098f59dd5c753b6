-- The objects of lines with their early references: what they are, and that their values fit.
use Rattle.std.proofs.Common.{inl, inr, ◌≡◌, ℕ, zero, suc, ◌+◌, ◌<◌, ◌&&◌, ◌||◌, Bool, true, false, cond, not, nat_lt, List, [], ◌∷◌, ◌++◌, map, length, Some, refl, sym, ap, ap₂, ◌∙◌, subst, arith}
use Rattle.std.specs.Prelude.{option_map}
use Rattle.std.specs.List.{slice_get}
use Rattle.std.proofs.lemmas.Bool.{cases_lt}
use Rattle.std.proofs.lemmas.Bool.Decides.{nat_tests}
use Rattle.std.proofs.lemmas.List.{length-map}
use Rattle.std.proofs.lemmas.Option.{none-some, same_Some, slice_get-map, slice_get_cases, slice_get_within}
use Rattle.gc_types.specs.declared.value.FieldType.{FieldType}
use Rattle.gc_types.specs.declared.value.HeapTopType.{HeapTopType}
use Rattle.gc_types.specs.declared.value.HeapTopType.TheVariants as top
use Rattle.gc_types.specs.declared.value.StorageType.{StorageType}
use Rattle.gc_types.specs.declared.value.StorageType.TheVariants as storage
use Rattle.gc_types.specs.declared.value.ValType.TheVariants as val
use Rattle.gc_types.specs.Declarations.{Declaration}
use Rattle.gc_types.specs.Values.{heap_top}
use Rattle.gc_owner.specs.declared.entry.GcClass.{GcClass}
use Rattle.gc_owner.specs.declared.entry.GcClass.TheVariants.{Any, Extern, Exn}
use Rattle.gc_model.specs.Fits.{fits, has_class}
use Rattle.gc_model.specs.SideValues.{side_values, no_side_values}
use Rattle.gc_model.specs.Forms.{top_form, storage_form, reference_of}
use Rattle.gc_model.specs.Stored.{byte_value, stored}
use Rattle.gc_model.specs.Values.{Reference, null, small, at, reference, Object, object_values}
use Rattle.gc_model.proofs.Fitting.{fits-form}
use Rattle.gc_image.specs.declared.image.ImageReference.TheVariants as image_reference
use Rattle.gc_image.specs.declared.image.ImageValue.{ImageValue}
use Rattle.gc_image.specs.declared.image.ImageValue.TheVariants as value
use Rattle.gc_image.specs.declared.image.ObjectLine.{ObjectLine}
use Rattle.gc_image.specs.declared.image.ObjectLine.TheVariants as object
use Rattle.gc_image.specs.Well.{as_object, as_value, is_immutable, is_early, number_named, wants_object}
use Rattle.gc_load_image.specs.Stages.{early_object, early_objects, early_reference, early_value}
use Rattle.gc_load_image.proofs.FitsAlike.{AlikeObject, AlikeValue, fits_alike}

pub early_length : (number : ℕ) (lines : List ObjectLine) → length (early_objects number lines) ≡ length lines
early_length number [] = refl
early_length number (line ∷ lines) = ap suc (early_length (number + 1) lines)

pub early_at : (number : ℕ) (lines : List ObjectLine) (i : ℕ) (line : ObjectLine) → slice_get lines i ≡ Some line → slice_get (early_objects number lines) i ≡ Some (early_object (number + i) line)
early_at number [] i line e = absurd (none-some line e)
early_at number (x ∷ lines) zero line e = ap (λ (y : ObjectLine). Some (early_object number y)) (same_Some x line e) ∙ ap (λ n. Some (early_object n line)) (let z : number ≡ number + 0 = omega arith in z)
early_at number (x ∷ lines) (suc i) line e = early_at (number + 1) lines i line e ∙ ap (λ n. Some (early_object n line)) (let z : number + 1 + i ≡ number + suc i = omega arith in z)

pub early_push : (number : ℕ) (lines : List ObjectLine) (line : ObjectLine) → early_objects number (lines ++ line ∷ []) ≡ early_objects number lines ++ early_object (number + length lines) line ∷ []
early_push number [] line = ap (λ n. early_object n line ∷ []) (let z : number ≡ number + 0 = omega arith in z)
early_push number (x ∷ lines) line =
    ap (λ (os : List (Object ℕ)). early_object number x ∷ os) (early_push (number + 1) lines line ∙ ap (λ n. early_objects (number + 1) lines ++ early_object n line ∷ []) (let z : number + 1 + length lines ≡ number + suc (length lines) = omega arith in z))

-- a line's object with its early references is the line's but for values
pub early_alike : (number : ℕ) (line : ObjectLine) → AlikeObject (as_object line) (early_object number line)
early_alike number (object.Struct ty values) = (map (early_value number) values, refl)
early_alike number (object.Array ty values) = (map (early_value number) values, refl)
early_alike number (object.Bytes ty bytes) = (map byte_value bytes, refl)
early_alike number (object.Host n) = (n, refl)
early_alike number (object.Exn ty tag values) = (tag, (map (early_value number) values, refl))

-- it has no functions and no continuations
values_plain : (number : ℕ) (values : List ImageValue) → side_values (map (early_value number) values) ≡ no_side_values
values_plain number [] = refl
values_plain number (value.I32 n ∷ values) = values_plain number values
values_plain number (value.I64 n ∷ values) = values_plain number values
values_plain number (value.F32 n ∷ values) = values_plain number values
values_plain number (value.F64 n ∷ values) = values_plain number values
values_plain number (value.V128 n ∷ values) = values_plain number values
values_plain number (value.Ref class r ∷ values) = values_plain number values

bytes_plain : (bytes : List ℕ) → side_values (map byte_value bytes) ≡ no_side_values
bytes_plain [] = refl
bytes_plain (b ∷ bytes) = bytes_plain bytes

pub early_plain : (number : ℕ) (line : ObjectLine) → side_values (object_values (early_object number line)) ≡ no_side_values
early_plain number (object.Struct ty values) = values_plain number values
early_plain number (object.Array ty values) = values_plain number values
early_plain number (object.Bytes ty bytes) = bytes_plain bytes
early_plain number (object.Host n) = refl
early_plain number (object.Exn ty tag values) = values_plain number values

-- what is kept of a reference is that reference
pub reference_stored : (ty : StorageType) (class : GcClass) (r : Reference) → stored ty (reference class r) ≡ reference class r
reference_stored storage.I8 class r = refl
reference_stored storage.I16 class r = refl
reference_stored (storage.ValType ty) class r = refl

pub early_stored : (ty : StorageType) (number : ℕ) (v : ImageValue) → stored ty (as_value v) ≡ as_value v → stored ty (early_value number v) ≡ early_value number v
early_stored ty number (value.I32 n) is = is
early_stored ty number (value.I64 n) is = is
early_stored ty number (value.F32 n) is = is
early_stored ty number (value.F64 n) is = is
early_stored ty number (value.V128 n) is = is
early_stored ty number (value.Ref class r) is = reference_stored ty class (early_reference number r)

-- null fits where a reference of the class does, in a type that takes null
class_has : (t : HeapTopType) (class : GcClass) → top_form t ≡ reference_of class → has_class t class ≡ true
class_has top.Any Any e = refl
class_has top.Extern Extern e = refl
class_has top.Exn Exn e = refl
class_has _ _ e = absurd (cc e)

null_goes : (types : List Declaration) (objects : List (Object ℕ)) (ty : StorageType) (class : GcClass) → wants_object ty ≡ false → storage_form ty ≡ reference_of class → fits types objects ty (reference class null) ≡ true
null_goes types objects storage.I8 class any form = absurd (cc form)
null_goes types objects storage.I16 class any form = absurd (cc form)
null_goes types objects (storage.ValType val.I32) class any form = absurd (cc form)
null_goes types objects (storage.ValType val.I64) class any form = absurd (cc form)
null_goes types objects (storage.ValType val.F32) class any form = absurd (cc form)
null_goes types objects (storage.ValType val.F64) class any form = absurd (cc form)
null_goes types objects (storage.ValType val.V128) class any form = absurd (cc form)
null_goes types objects (storage.ValType (val.Ref ty)) class any form = ap₂ (λ a b. a && b) (nullable ty.nullable any) (class_has (heap_top ty.heap_type) class form)
  where
    nullable : (b : Bool) → not b ≡ false → b ≡ true
    nullable true e = refl
    nullable false e = absurd (cc e)

late_nullable : (field : FieldType) → (is_early field ≡ true → ⊥) → wants_object field.element_type ≡ false
late_nullable field none = by (is_immutable field.mutability) (wants_object field.element_type) refl none
  where
    by : (a b : Bool) → wants_object field.element_type ≡ b → ((a || b) ≡ true → ⊥) → wants_object field.element_type ≡ false
    by true b is none = absurd (none refl)
    by false true is none = absurd (none refl)
    by false false is none = is

-- Objects that were made stand for those of the image up to a number.
pub record AreMade (lines : List ObjectLine) (number : ℕ) (objects : List (Object ℕ)) : Type 0 where
  pub each : (p : ℕ) (line : ObjectLine) → p < number → slice_get lines p ≡ Some line → (o : Object ℕ) × ((slice_get objects p ≡ Some o) × AlikeObject (as_object line) o)

module _ (types : List Declaration) (lines : List ObjectLine) (objects : List (Object ℕ)) (number : ℕ) (made : AreMade lines number objects) where
  image_at : (p : ℕ) (o : Object ℕ) → slice_get (map as_object lines) p ≡ Some o → (line : ObjectLine) × ((slice_get lines p ≡ Some line) × (o ≡ as_object line))
  image_at p o e = elim ((slice_get_cases lines p).1) [
    | inl found ↦ (found.0, (found.2, same_Some o (as_object found.0) (sym e ∙ slice_get-map as_object lines p ∙ ap (option_map as_object) found.2)))
    | inr past ↦ absurd (let inside = slice_get_within (map as_object lines) p o e in omega (arith, past.0, inside, length-map lines as_object))
  ]

  -- a value that names what was made is alike
  pub made_alike : (class : GcClass) (p : ℕ) → p < number → AlikeValue (map as_object lines) objects (reference class (at p)) (reference class (at p))
  made_alike class p below = (
    at p,
    (
      refl,
      (
        p,
        (
          refl,
          λ o e.
              let line = image_at p o e in
              let other = made.each p line.0 below line.1.0 in
              (other.0, (other.1.0, subst (λ (x : Object ℕ). AlikeObject x other.0) (sym line.1.1) other.1.1)),
        ),
      ),
    ),
  )

  object_fits : (field : FieldType) (class : GcClass) (named : ℕ) → fits types (map as_object lines) field.element_type (reference class (at named)) ≡ true → (is_early field ≡ true → named < number)
      → fits types objects field.element_type (early_value number (value.Ref class (image_reference.Object named))) ≡ true
  object_fits field class named e early = elim (cases_lt named number) [
    | inl below ↦
        let test : nat_lt named number ≡ true = grind (arith, nat_tests, below) in
        ap (λ (b : Bool). fits types objects field.element_type (reference class (cond b (at named) null))) test
        ∙ fits_alike types (map as_object lines) objects field.element_type (reference class (at named)) (reference class (at named)) (made_alike class named below) e
    | inr past ↦
        let test : nat_lt named number ≡ false = grind (arith, nat_tests, past) in
        ap (λ (b : Bool). fits types objects field.element_type (reference class (cond b (at named) null))) test
        ∙ null_goes types objects field.element_type class (late_nullable field (λ is. let below = early is in absurd (omega (arith, below, past)))) (fits-form types (map as_object lines) field.element_type (reference class (at named)) e)
  ]

  -- an early value fits
  pub early_fits : (field : FieldType) (v : ImageValue) → fits types (map as_object lines) field.element_type (as_value v) ≡ true → (is_early field ≡ true → (named : ℕ) → number_named v ≡ Some named → named < number)
      → fits types objects field.element_type (early_value number v) ≡ true
  early_fits field (value.I32 n) e early = fits_alike types (map as_object lines) objects field.element_type (as_value (value.I32 n)) (as_value (value.I32 n)) refl e
  early_fits field (value.I64 n) e early = fits_alike types (map as_object lines) objects field.element_type (as_value (value.I64 n)) (as_value (value.I64 n)) refl e
  early_fits field (value.F32 n) e early = fits_alike types (map as_object lines) objects field.element_type (as_value (value.F32 n)) (as_value (value.F32 n)) refl e
  early_fits field (value.F64 n) e early = fits_alike types (map as_object lines) objects field.element_type (as_value (value.F64 n)) (as_value (value.F64 n)) refl e
  early_fits field (value.V128 n) e early = fits_alike types (map as_object lines) objects field.element_type (as_value (value.V128 n)) (as_value (value.V128 n)) refl e
  early_fits field (value.Ref class image_reference.Null) e early = fits_alike types (map as_object lines) objects field.element_type (reference class null) (reference class null) (null, (refl, refl)) e
  early_fits field (value.Ref class (image_reference.Small n)) e early = fits_alike types (map as_object lines) objects field.element_type (reference class (small n)) (reference class (small n)) (small n, (refl, refl)) e
  early_fits field (value.Ref class (image_reference.Object named)) e early = object_fits field class named e (λ is. early is named refl)
