-- Arrays of more elements than any heap holds.
use Rattle.std.proofs.Common.{◌≡◌, ℕ, ◌*◌, ◌<◌, ◌≤◌, true, List, map, length, Option, Some, refl, sym, ap, ◌∙◌, subst, arith}
use Rattle.std.proofs.lemmas.Bool.Decides.{nat_tests}
use Rattle.std.proofs.lemmas.List.{length-map}
use Rattle.gc_types.specs.declared.kind.Layouts.{Layouts}
use Rattle.gc_types.specs.declared.kind.Layouts.TheVariants.{Null, Counting, Copying}
use Rattle.gc_types.specs.declared.value.FieldType.{FieldType}
use Rattle.gc_types.specs.declared.value.StorageType.{StorageType}
use Rattle.gc_types.specs.declared.value.StorageType.TheVariants as storage
use Rattle.gc_types.specs.declared.value.ValType.{ValType}
use Rattle.gc_types.specs.declared.value.ValType.TheVariants as val_type
use Rattle.gc_types.specs.Declarations.{Declaration, elem_at}
use Rattle.gc_types.specs.Layouts.{storage_width, value_width}
use Rattle.gc_model.specs.Values.{Value, Object, array}
use Rattle.gc_model.specs.Allocation.{Limits, too_large}
use Rattle.gc_model.specs.Reach.{object_values}
use Rattle.gc_model.specs.Sizes.{elements_size, object_size}
use Rattle.gc_model.specs.Stored.{stored, byte_value}
use Rattle.gc_model.specs.Table.{Table}
use Rattle.gc_model.specs.Stores.{StoreView}
use Rattle.gc_model.specs.Accounts.{Account, HoldsAccount}
use Rattle.gc_model.specs.Policy.{policy_state}
use Rattle.gc_store.specs.Requests.{CanPlaceElements, CanPlaceBytes, element_of}
use Rattle.gc_objects.specs.declared.val.Val.{Val}
use Rattle.gc_objects.specs.Given.{raw_of}
use Rattle.gc_objects.specs.Makes.{IsArrayOf, RefusesLarge}
use Rattle.gc_objects.proofs.Pushing.{held_table}

value_takes : (ty : ValType) (n : ℕ) → n ≤ n * value_width ty
value_takes val_type.I32 n = omega (arith)
value_takes val_type.I64 n = omega (arith)
value_takes val_type.F32 n = omega (arith)
value_takes val_type.F64 n = omega (arith)
value_takes val_type.V128 n = omega (arith)
value_takes (val_type.Ref ty) n = omega (arith)

-- each element takes a byte or more
element_takes : (ty : StorageType) (n : ℕ) → n ≤ n * storage_width ty
element_takes storage.I8 n = omega (arith)
element_takes storage.I16 n = omega (arith)
element_takes (storage.ValType ty) n = value_takes ty n

-- so many bytes are too large for each heap
bytes_too_large : (layouts : Layouts) (size : ℕ) → 4294967296 ≤ size → too_large layouts size ≡ true
bytes_too_large Null size over = grind (arith, nat_tests, over)
bytes_too_large Counting size over = grind (arith, nat_tests, over)
bytes_too_large Copying size over = grind (arith, nat_tests, over)

-- and so are that many elements
pub elements_too_large : (layouts : Layouts) (element : FieldType) (n : ℕ) → 4294967296 ≤ n → too_large layouts (elements_size layouts (Some element) n) ≡ true
elements_too_large layouts element n over =
    let takes = element_takes element.element_type n in
    bytes_too_large layouts (elements_size layouts (Some element) n) (omega (arith, takes, over))

-- an array of so many elements is refused before the heap is asked
pub refused_large : {D : Type 0} (layouts : Layouts) (s : StoreView D) (t : Table D) (a : Account) (limits : Limits) → HoldsAccount layouts s t a
    → (ty : ℕ) (element : FieldType) → elem_at s.types ty ≡ Some element → (values : List Value) → ¬ (length values < 4294967296) → (o : Object D) → o ≡ array ty values
    → RefusesLarge layouts o (policy_state t a limits) limits s
refused_large {D} layouts s t a limits holds ty element declared values over o is =
    let same : elem_at t.types ty ≡ Some element = sym (ap (λ (types : List Declaration). elem_at types ty) (held_table layouts s t a holds).1.types) ∙ declared in
    let size : object_size layouts t.types o ≡ elements_size layouts (Some element) (length values) = ap (object_size layouts t.types) is ∙ ap (λ (e : Option FieldType). elements_size layouts e (length values)) same in
    let count : length (object_values o) ≡ length values = ap (λ (p : Object D). length (object_values p)) is in
    record {
      large = ap (too_large layouts) size ∙ elements_too_large layouts element (length values) (omega (arith, over));
      has_ids = λ few. absurd (over (subst (λ (n : ℕ). n < 4294967296) count few));
      refuses = record { holds = holds; limits = refl };
    }

-- so is one of that many values
pub refused_elements : (D : Type 0) (layouts : Layouts) (s : StoreView D) (t : Table D) (a : Account) (limits : Limits) → HoldsAccount layouts s t a
    → (ty : ℕ) (vs : List Val) → CanPlaceElements D layouts s ty (length vs) (map raw_of vs) → ¬ (length vs < 4294967296) → (o : Object D) → IsArrayOf s t ty vs o
    → RefusesLarge layouts o (policy_state t a limits) limits s
refused_elements D layouts s t a limits holds ty vs can over o is =
    let values : List Value = map (stored (element_of t.types ty)) is.0 in
    let count : length values ≡ length vs = length-map is.0 (stored (element_of t.types ty)) ∙ sym is.1.0.same_count ∙ length-map vs raw_of in
    refused_large layouts s t a limits holds ty can.element can.declared values (λ few. over (subst (λ (n : ℕ). n < 4294967296) count few)) o is.1.1

-- and one of that many bytes
pub refused_bytes : {D : Type 0} (layouts : Layouts) (s : StoreView D) (t : Table D) (a : Account) (limits : Limits) → HoldsAccount layouts s t a
    → (ty : ℕ) (bytes : List ℕ) → CanPlaceBytes s ty (length bytes) bytes → ¬ (length bytes < 4294967296)
    → RefusesLarge layouts (array ty (map byte_value bytes)) (policy_state t a limits) limits s
refused_bytes layouts s t a limits holds ty bytes can over =
    refused_large layouts s t a limits holds ty can.element can.declared (map byte_value bytes)
    (λ few. over (subst (λ (n : ℕ). n < 4294967296) (length-map bytes byte_value) few)) (array ty (map byte_value bytes)) refl
