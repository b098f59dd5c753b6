-- What a line is determined by: the object that it is at positions, and the number of each position.
use Rattle.std.proofs.Common.{◌≡◌, ℕ, ◌<◌, suc, zero, Bool, true, false, List, [], ◌∷◌, length, map, Option, None, Some, refl, sym, ap, ap₂, ◌∙◌}
use Rattle.std.specs.Int.{cast_signed, cast_unsigned, w32, w64}
use Rattle.std.specs.List.{AllByRecursion, cons_option, filter_map, range_with_len, slice_get}
use Rattle.std.specs.Option.{option_map}
use Rattle.std.proofs.lemmas.Int.{to_z-of_z}
use Rattle.gc_types.specs.declared.value.FieldType.{FieldType}
use Rattle.gc_types.specs.declared.value.StorageType.{StorageType}
use Rattle.gc_types.specs.declared.value.StorageType.TheVariants as storage
use Rattle.gc_types.specs.Declarations.{Declaration, elem_at}
use Rattle.gc_model.specs.Reach.{object_values}
use Rattle.gc_model.specs.Stored.{byte_value, value_type}
use Rattle.gc_model.specs.Values.{Reference, null, small, at, Value, numeric, function, continuation, reference, NumberKind, i32, i64, f32, f64, v128, Object, struct, array, host, exception}
use Rattle.gc_image.specs.declared.image.ImageReference.{ImageReference}
use Rattle.gc_image.specs.declared.image.ImageReference.TheVariants as image_reference
use Rattle.gc_image.specs.declared.image.ImageValue.{ImageValue}
use Rattle.gc_image.specs.declared.image.ImageValue.TheVariants as value
use Rattle.gc_image.specs.declared.image.ObjectLine.{ObjectLine}
use Rattle.gc_image.specs.declared.image.ObjectLine.TheVariants as object
use Rattle.gc_image.specs.Images.{placed_object, placed_reference, placed_value}
use Rattle.gc_image.specs.Text.{FitsObject, FitsImageValue}
use Rattle.gc_image.specs.Well.{HasShape, IsPacked, as_object, as_reference, as_value, line_values, number_named}
use Rattle.gc_image_write.specs.Graphs.{named_in}
use Rattle.gc_image_write.specs.Order.{AreBelow, NamesBelow, early_in, early_of, is_early_in}
use Rattle.gc_image_write.proofs.LineBelow.{IsLineBelow}
use Rattle.gc_image_write.proofs.PickLemmas.{filter_renamed, map_cons}

-- whether elements are spelled as bytes
abbrev is_byte : StorageType → Bool
is_byte storage.I8 = true
is_byte storage.I16 = false
is_byte (storage.ValType ty) = false

abbrev are_bytes : Option FieldType → Bool
are_bytes None = false
are_bytes (Some elem) = is_byte elem.element_type

abbrev byte_back : Value → ℕ
byte_back (numeric kind n) = n
byte_back (function f) = 0
byte_back (continuation cont) = 0
byte_back (reference class r) = 0

module _ (back : ℕ → ℕ) where
  abbrev pub reference_back : Reference → ImageReference
  reference_back null = image_reference.Null
  reference_back (small n) = image_reference.Small n
  reference_back (at p) = image_reference.Object (back p)

  abbrev number_back : NumberKind → ℕ → ImageValue
  number_back i32 n = value.I32 (cast_signed w32 n)
  number_back i64 n = value.I64 (cast_signed w64 n)
  number_back f32 n = value.F32 n
  number_back f64 n = value.F64 n
  number_back v128 n = value.V128 n

  abbrev value_back : Value → ImageValue
  value_back (numeric kind n) = number_back kind n
  value_back (function f) = value.F32 0
  value_back (continuation cont) = value.F32 0
  value_back (reference class r) = value.Ref class (reference_back r)

  abbrev array_back : Bool → ℕ → List Value → ObjectLine
  array_back true ty values = object.Bytes ty (map byte_back values)
  array_back false ty values = object.Array ty (map value_back values)

  abbrev pub object_back : List Declaration → Object ℕ → ObjectLine
  object_back types (struct ty values) = object.Struct ty (map value_back values)
  object_back types (array ty values) = array_back (are_bytes (elem_at types ty)) ty values
  object_back types (host number) = object.Host number
  object_back types (exception ty tag values) = object.Exn ty tag (map value_back values)

-- the position that a value names
abbrev named_at : Value → Option ℕ
named_at (numeric kind n) = None
named_at (function f) = None
named_at (continuation cont) = None
named_at (reference class null) = None
named_at (reference class (small n)) = None
named_at (reference class (at p)) = Some p

abbrev named_there : Option Value → Option ℕ
named_there None = None
named_there (Some v) = named_at v

abbrev early_there : Bool → Option Value → Option ℕ
early_there true o = named_there o
early_there false o = None

-- which positions an object names, and which it must have from the start
abbrev pub positions_named : Object ℕ → List ℕ
positions_named o = filter_map named_at (object_values o)

abbrev pub positions_early : List Declaration → Object ℕ → List ℕ
positions_early types o = filter_map (λ i. early_there (is_early_in (value_type types o i)) (slice_get (object_values o) i)) (range_with_len 0 (length (object_values o)))

-- the bytes of an array name nothing
byte_values : (position : ℕ → ℕ) (bytes : List ℕ) → filter_map named_at (map (placed_value position) (map byte_value bytes)) ≡ []
byte_values position [] = refl
byte_values position (b ∷ bytes) = byte_values position bytes

byte_at : (position : ℕ → ℕ) (bytes : List ℕ) (i : ℕ) (is : Bool) → early_there is (slice_get (map (placed_value position) (map byte_value bytes)) i) ≡ None
byte_at position [] i true = refl
byte_at position [] i false = refl
byte_at position (b ∷ bytes) zero true = refl
byte_at position (b ∷ bytes) zero false = refl
byte_at position (b ∷ bytes) (suc i) is = byte_at position bytes i is

nothing_there : (is : Bool) → early_there is None ≡ None
nothing_there true = refl
nothing_there false = refl

filter_none : {A : Type 0} (g : A → Option ℕ) → ((x : A) → g x ≡ None) → (xs : List A) → filter_map g xs ≡ []
filter_none g none [] = refl
filter_none g none (x ∷ xs) = ap₂ cons_option (none x) (filter_none g none xs)

module _ (position : ℕ → ℕ) where
  placed_named : (v : ImageValue) → option_map position (number_named v) ≡ named_at (placed_value position (as_value v))
  placed_named (value.I32 n) = refl
  placed_named (value.I64 n) = refl
  placed_named (value.F32 n) = refl
  placed_named (value.F64 n) = refl
  placed_named (value.V128 n) = refl
  placed_named (value.Ref class image_reference.Null) = refl
  placed_named (value.Ref class (image_reference.Small n)) = refl
  placed_named (value.Ref class (image_reference.Object n)) = refl

  values_named : (vs : List ImageValue) → map position (named_in vs) ≡ filter_map named_at (map (placed_value position) (map as_value vs))
  values_named [] = refl
  values_named (v ∷ vs) = map_cons position (number_named v) (named_in vs) ∙ ap₂ cons_option (placed_named v) (values_named vs)

  -- the positions of what a line names
  pub line_named : (line : ObjectLine) → map position (named_in (line_values line)) ≡ positions_named (placed_object position (as_object line))
  line_named (object.Struct ty values) = values_named values
  line_named (object.Array ty values) = values_named values
  line_named (object.Bytes ty bytes) = sym (byte_values position bytes)
  line_named (object.Host number) = refl
  line_named (object.Exn ty tag values) = values_named values

  value_early : (is : Bool) (vs : List ImageValue) (i : ℕ) → option_map position (early_of is (slice_get vs i)) ≡ early_there is (slice_get (map (placed_value position) (map as_value vs)) i)
  value_early true [] i = refl
  value_early false [] i = refl
  value_early true (v ∷ vs) zero = placed_named v
  value_early false (v ∷ vs) zero = refl
  value_early is (v ∷ vs) (suc i) = value_early is vs i

  values_long : (vs : List ImageValue) → length (map (placed_value position) (map as_value vs)) ≡ length vs
  values_long [] = refl
  values_long (v ∷ vs) = ap suc (values_long vs)

  module _ (types : List Declaration) where
    values_early : (kind : ℕ → Bool) (vs : List ImageValue) → map position (filter_map (λ i. early_of (kind i) (slice_get vs i)) (range_with_len 0 (length vs)))
        ≡ filter_map (λ i. early_there (kind i) (slice_get (map (placed_value position) (map as_value vs)) i)) (range_with_len 0 (length (map (placed_value position) (map as_value vs))))
    values_early kind vs =
        filter_renamed position (λ i. early_of (kind i) (slice_get vs i)) (λ i. early_there (kind i) (slice_get (map (placed_value position) (map as_value vs)) i)) (λ i. value_early (kind i) vs i)
        (range_with_len 0 (length vs))
        ∙ ap (λ n. filter_map (λ i. early_there (kind i) (slice_get (map (placed_value position) (map as_value vs)) i)) (range_with_len 0 n)) (sym (values_long vs))

    -- the positions of what it must have from the start
    pub line_early : (line : ObjectLine) → map position (filter_map (early_in types (Some line)) (range_with_len 0 (length (line_values line)))) ≡ positions_early types (placed_object position (as_object line))
    line_early (object.Struct ty values) = values_early (λ i. is_early_in (value_type types (as_object (object.Struct ty values)) i)) values
    line_early (object.Array ty values) = values_early (λ i. is_early_in (value_type types (as_object (object.Array ty values)) i)) values
    line_early (object.Bytes ty bytes) =
        sym (filter_none (λ i. early_there (is_early_in (elem_at types ty)) (slice_get (map (placed_value position) (map byte_value bytes)) i)) (λ i. byte_at position bytes i (is_early_in (elem_at types ty)))
        (range_with_len 0 (length (map (placed_value position) (map byte_value bytes)))))
    line_early (object.Host number) = refl
    line_early (object.Exn ty tag values) = values_early (λ i. is_early_in (value_type types (as_object (object.Exn ty tag values)) i)) values

-- a line is read back from its object, where the number of each position that it names is known
module _ (position back : ℕ → ℕ) (count : ℕ) (is_back : (n : ℕ) → n < count → back (position n) ≡ n) where
  pub back_reference : (r : ImageReference) → ((n : ℕ) → r ≡ image_reference.Object n → n < count) → reference_back back (placed_reference position (as_reference r)) ≡ r
  back_reference image_reference.Null below = refl
  back_reference (image_reference.Small n) below = refl
  back_reference (image_reference.Object n) below = ap image_reference.Object (is_back n (below n refl))

  back_value : (v : ImageValue) → FitsImageValue v → NamesBelow count v → value_back back (placed_value position (as_value v)) ≡ v
  back_value (value.I32 n) fit below = ap value.I32 (ap (λ m. cast_signed w32 (cast_unsigned w32 m)) (to_z-of_z w32 n fit) ∙ to_z-of_z w32 n fit)
  back_value (value.I64 n) fit below = ap value.I64 (ap (λ m. cast_signed w64 (cast_unsigned w64 m)) (to_z-of_z w64 n fit) ∙ to_z-of_z w64 n fit)
  back_value (value.F32 n) fit below = refl
  back_value (value.F64 n) fit below = refl
  back_value (value.V128 n) fit below = refl
  back_value (value.Ref class r) fit below = ap (value.Ref class) (back_reference r (λ n is. below n (ap (λ (x : ImageReference). number_named (value.Ref class x)) is)))

  back_values : (vs : List ImageValue) → AllByRecursion FitsImageValue vs → AreBelow count vs → map (value_back back) (map (placed_value position) (map as_value vs)) ≡ vs
  back_values [] fit below = refl
  back_values (v ∷ vs) fit below = ap₂ (λ x xs. x ∷ xs) (back_value v fit.0 (below 0 v refl)) (back_values vs fit.1 (λ k w there. below (suc k) w there))

  back_bytes : (bytes : List ℕ) → map byte_back (map (placed_value position) (map byte_value bytes)) ≡ bytes
  back_bytes [] = refl
  back_bytes (b ∷ bytes) = ap (λ bs. b ∷ bs) (back_bytes bytes)

  isnt_byte : (elem : FieldType) (ty : StorageType) → elem.element_type ≡ ty → (¬ (elem.element_type ≡ storage.I8)) → is_byte ty ≡ false
  isnt_byte elem storage.I8 is isnt = absurd (isnt is)
  isnt_byte elem storage.I16 is isnt = refl
  isnt_byte elem (storage.ValType ty) is isnt = refl

  no_bytes : (o : Option FieldType) → IsPacked o false → are_bytes o ≡ false
  no_bytes None packed = absurd packed
  no_bytes (Some elem) packed = isnt_byte elem elem.element_type refl packed

  all_bytes : (o : Option FieldType) → IsPacked o true → are_bytes o ≡ true
  all_bytes None packed = absurd packed
  all_bytes (Some elem) packed = ap is_byte packed

  pub back_line : (types : List Declaration) (line : ObjectLine) → HasShape types line → FitsObject line → IsLineBelow count line → object_back back types (placed_object position (as_object line)) ≡ line
  back_line types (object.Struct ty values) shape fit below = ap (object.Struct ty) (back_values values fit.1 below)
  back_line types (object.Array ty values) shape fit below =
      ap (λ b. array_back back b ty (map (placed_value position) (map as_value values))) (no_bytes (elem_at types ty) shape) ∙ ap (object.Array ty) (back_values values fit.1 below)
  back_line types (object.Bytes ty bytes) shape fit below =
      ap (λ b. array_back back b ty (map (placed_value position) (map byte_value bytes))) (all_bytes (elem_at types ty) shape) ∙ ap (object.Bytes ty) (back_bytes bytes)
  back_line types (object.Host number) shape fit below = refl
  back_line types (object.Exn ty tag values) shape fit below = ap (object.Exn ty tag) (back_values values fit.3 below)
