-- A declared type has few fields.
use Rattle.std.proofs.Common.{◌≡◌, ◌≤◌, ◌<◌, ℕ, List, Option, Some, None, length, map, option_and_then, option_map, slice_get, refl, sym, ap, ◌∙◌, subst, arith}
use Rattle.std.proofs.lemmas.List.{length-map}
use Rattle.std.proofs.lemmas.Option.{same_Some, slice_get_within}
use Rattle.gc_types.specs.declared.value.FieldType.{FieldType}
use Rattle.gc_types.specs.Declarable.{AreDeclared, HasFewFields}
use Rattle.gc_types.specs.Declarations.{Declaration, Shape, array_of, constant_field, declaration_fields, exn_of, fields_at, func_of, max_fields, shape_fields, struct_of}

few_in : (shape : Shape) (fields : List FieldType) → HasFewFields shape → shape_fields shape ≡ Some fields → length fields ≤ max_fields
few_in (struct_of xs) fields few is = subst (λ (ys : List FieldType). length ys ≤ max_fields) (same_Some xs fields is) few
few_in (array_of elem) fields few is = absurd (cc is)
few_in (exn_of params) fields few is =
    let many : length fields ≡ length params = ap length (sym (same_Some (map constant_field params) fields is)) ∙ length-map params constant_field in
    omega (arith, many, few)
few_in (func_of params results) fields few is = absurd (cc is)

pub few_fields : (types : List Declaration) (ty : ℕ) (fields : List FieldType) → AreDeclared types → fields_at types ty ≡ Some fields → length fields ≤ max_fields
few_fields types ty fields declared is = by (slice_get types ty) refl
  where
    by : (d : Option Declaration) → slice_get types ty ≡ d → length fields ≤ max_fields
    by None found = absurd (cc (sym (ap declaration_fields found) ∙ is))
    by (Some d) found = few_in d.shape fields (declared.each ty d found).few_fields (sym (ap declaration_fields found) ∙ is)

-- so the index of one is small
pub few_indexes : (types : List Declaration) (ty index : ℕ) (field : FieldType) → AreDeclared types → option_and_then (λ (fields : List FieldType). slice_get fields index) (fields_at types ty) ≡ Some field → index < max_fields
few_indexes types ty index field declared is = by (fields_at types ty) refl
  where
    by : (o : Option (List FieldType)) → fields_at types ty ≡ o → index < max_fields
    by None found = absurd (cc (sym (ap (option_and_then (λ (fields : List FieldType). slice_get fields index)) found) ∙ is))
    by (Some fields) found =
        let inside = slice_get_within fields index field (sym (ap (option_and_then (λ (fs : List FieldType). slice_get fs index)) found) ∙ is) in
        let few = few_fields types ty fields declared found in
        omega (arith, inside, few)

-- so a number of fields is few where it is known
pub few_counted : (types : List Declaration) (ty count : ℕ) → AreDeclared types → option_map length (fields_at types ty) ≡ Some count → count ≤ max_fields
few_counted types ty count declared is = by (fields_at types ty) refl
  where
    by : (o : Option (List FieldType)) → fields_at types ty ≡ o → count ≤ max_fields
    by None found = absurd (cc (sym (ap (option_map length) found) ∙ is))
    by (Some fields) found =
        let same : length fields ≡ count = same_Some (length fields) count (sym (ap (option_map length) found) ∙ is) in
        let few = few_fields types ty fields declared found in
        omega (arith, same, few)
