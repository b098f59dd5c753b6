-- How many bytes the objects of lines take.
use Rattle.std.proofs.Common.{◌≡◌, ℕ, ◌+◌, ◌<◌, ◌≤◌, ◌^◌, false, true, List, [], ◌∷◌, Option, Some, None, map, length, option_map, refl, sym, ap, ap₂, ◌∙◌, inl, inr, arith}
use Rattle.std.specs.Prelude.{sum_by}
use Rattle.std.proofs.Math.Nat.{le-mul_of_pos_right}
use Rattle.std.proofs.lemmas.List.{length-map}
use Rattle.std.proofs.lemmas.List.Sums.{sum_by-cons}
use Rattle.std.proofs.lemmas.Bool.{cases_lt}
use Rattle.std.proofs.lemmas.Bool.Decides.{nat_tests}
use Rattle.std.proofs.lemmas.Option.{same_Some}
use Rattle.gc_types.specs.declared.kind.Layouts.{Layouts}
use Rattle.gc_types.specs.declared.kind.Layouts.TheVariants.{Null, Counting, Copying}
use Rattle.gc_types.specs.declared.value.FieldType.{FieldType}
use Rattle.gc_types.specs.Declarations.{Declaration, elem_at, struct_fields_at}
use Rattle.gc_types.specs.Layouts.{array_base, exception_base, fields_end, round_up, storage_width, struct_base}
use Rattle.gc_view.specs.Sizes.{alignment, too_large}
use Rattle.gc_view.proofs.Layouts.{round_up-le, storage_width_positive}
use Rattle.gc_model.specs.Sizes.{block_bytes, elements_size, exception_size, exn_fields_at, fields_size, object_size, next_after}
use Rattle.gc_model.specs.Stored.{byte_value}
use Rattle.gc_model.specs.Values.{Object}
use Rattle.gc_image.specs.declared.image.ObjectLine.{ObjectLine}
use Rattle.gc_image.specs.declared.image.ObjectLine.TheVariants as object
use Rattle.gc_image.specs.Well.{HasShape, IsPacked, as_value, line_values}
use Rattle.gc_load_image.specs.Loads.{line_block, line_size}
use Rattle.gc_load_image.specs.Stages.{early_object, early_objects, early_value}

pub fields_above : (p : ℕ) (fields : List FieldType) → p + length fields ≤ fields_end p fields
fields_above p [] = omega arith
fields_above p (field ∷ fields) =
    let wide = storage_width_positive field.element_type in
    let up = round_up-le p (storage_width field.element_type) wide in
    let rest = fields_above (round_up p (storage_width field.element_type) + storage_width field.element_type) fields in
    omega (arith, wide, up, rest)

struct_some : (layouts : Layouts) → 0 < struct_base layouts
struct_some Null = omega arith
struct_some Counting = omega arith
struct_some Copying = omega arith

exception_some : (layouts : Layouts) → 0 < exception_base layouts
exception_some Null = omega arith
exception_some Counting = omega arith
exception_some Copying = omega arith

array_some : (layouts : Layouts) → 0 < array_base layouts
array_some Null = omega arith
array_some Counting = omega arith
array_some Copying = omega arith

fields_count : (layouts : Layouts) (found : Option (List FieldType)) (n : ℕ) → option_map length found ≡ Some n → n < fields_size layouts found
fields_count layouts None n is = absurd (cc)
fields_count layouts (Some fields) n is =
    let same : length fields ≡ n = same_Some (length fields) n is in
    let above = fields_above (struct_base layouts) fields in
    let some = struct_some layouts in
    omega (arith, same, above, some)

params_count : (layouts : Layouts) (found : Option (List FieldType)) (n : ℕ) → option_map length found ≡ Some n → n < exception_size layouts found
params_count layouts None n is = absurd (cc)
params_count layouts (Some fields) n is =
    let same : length fields ≡ n = same_Some (length fields) n is in
    let above = fields_above (exception_base layouts) fields in
    let some = exception_some layouts in
    omega (arith, same, above, some)

pub elements_count : (layouts : Layouts) (found : Option FieldType) (field : FieldType) (n : ℕ) → found ≡ Some field → n < elements_size layouts found n
elements_count layouts None field n is = absurd (cc)
elements_count layouts (Some elem) field n is =
    let wide = storage_width_positive elem.element_type in
    let up = round_up-le (array_base layouts) (storage_width elem.element_type) wide in
    let some = array_some layouts in
    let above = le-mul_of_pos_right n wide in
    omega (arith, wide, up, some, above)

pub some_element : (found : Option FieldType) (packed : _) → IsPacked found packed → (field : FieldType) × (found ≡ Some field)
some_element None packed is = absurd is
some_element (Some field) packed is = (field, refl)

-- an object has more bytes than values
pub size_above : (layouts : Layouts) (types : List Declaration) (line : ObjectLine) → HasShape types line → length (line_values line) < line_size layouts types line
size_above layouts types (object.Struct ty values) shape = fields_count layouts (struct_fields_at types ty) (length values) shape
size_above layouts types (object.Array ty values) shape =
    let some = some_element (elem_at types ty) false shape in
    let above = elements_count layouts (elem_at types ty) some.0 (length (map as_value values)) some.1 in
    omega (arith, above, length-map values as_value)
size_above layouts types (object.Bytes ty bytes) shape =
    let some = some_element (elem_at types ty) true shape in
    let above = elements_count layouts (elem_at types ty) some.0 (length (map byte_value bytes)) some.1 in
    omega (arith, above)
size_above Null types (object.Host n) shape = omega arith
size_above Counting types (object.Host n) shape = omega arith
size_above Copying types (object.Host n) shape = omega arith
size_above layouts types (object.Exn ty tag values) shape = params_count layouts (exn_fields_at types ty) (length values) shape

-- what has 2^32 bytes is too large
pub wide_is_large : (layouts : Layouts) (size : ℕ) → 2 ^ 32 ≤ size → too_large layouts size ≡ true
wide_is_large Null size wide = grind (arith, nat_tests)
wide_is_large Counting size wide = grind (arith, nat_tests)
wide_is_large Copying size wide = grind (arith, nat_tests)

-- what isn't has fewer
pub small_is_short : (layouts : Layouts) (size : ℕ) → too_large layouts size ≡ false → size < 2 ^ 32
small_is_short layouts size small = elim (cases_lt size (2 ^ 32)) [
  | inl less ↦ less
  | inr more ↦ absurd (cc (sym small ∙ wide_is_large layouts size (omega (arith, more))))
]

-- an object with its early references takes as many bytes
pub early_size : (layouts : Layouts) (types : List Declaration) (number : ℕ) (line : ObjectLine) → object_size layouts types (early_object number line) ≡ line_size layouts types line
early_size layouts types number (object.Struct ty values) = refl
early_size layouts types number (object.Array ty values) = ap (elements_size layouts (elem_at types ty)) (length-map values (early_value number) ∙ sym (length-map values as_value))
early_size layouts types number (object.Bytes ty bytes) = refl
early_size layouts types number (object.Host n) = refl
early_size layouts types number (object.Exn ty tag values) = refl

pub early_blocks : (layouts : Layouts) (types : List Declaration) (number : ℕ) (lines : List ObjectLine) → sum_by (λ (o : Object ℕ). block_bytes layouts types (Some o)) (early_objects number lines) ≡ sum_by (line_block layouts types) lines
early_blocks layouts types number [] = refl
early_blocks layouts types number (line ∷ lines) =
    let here : block_bytes layouts types (Some (early_object number line)) ≡ line_block layouts types line = ap (λ n. round_up n alignment) (early_size layouts types number line) in
    sum_by-cons (λ (o : Object ℕ). block_bytes layouts types (Some o)) (early_object number line) (early_objects (number + 1) lines)
    ∙ ap₂ (λ a b. a + b) here (early_blocks layouts types (number + 1) lines)
    ∙ sym (sum_by-cons (line_block layouts types) line lines)

-- a sum of sizes, each in whole multiples of 16
pub rounded_sum : (n size : ℕ) → round_up (round_up n alignment + size) alignment ≡ round_up n alignment + round_up size alignment
rounded_sum n size = omega arith

-- where a null heap goes on
pub null_place : (types : List Declaration) (number n : ℕ) (lines : List ObjectLine) → round_up (next_after types n (early_objects number lines)) alignment ≡ round_up n alignment + sum_by (line_block Null types) lines
null_place types number n [] = omega arith
null_place types number n (line ∷ lines) =
    let size = object_size Null types (early_object number line) in
    let here : round_up size alignment ≡ line_block Null types line = ap (λ k. round_up k alignment) (early_size Null types number line) in
    let rest = null_place types (number + 1) (round_up n alignment + size) lines in
    let sums = rounded_sum n size in
    let total : round_up (round_up n alignment + size) alignment + sum_by (line_block Null types) lines ≡ round_up n alignment + (line_block Null types line + sum_by (line_block Null types) lines) = omega (arith, here, sums) in
    rest ∙ total ∙ ap (λ k. round_up n alignment + k) (sym (sum_by-cons (line_block Null types) line lines))
