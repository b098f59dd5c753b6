-- What is requested of a store by the commands that make objects.
use Rattle.std.proofs.Common.{◌≡◌, ℕ, ◌*◌, ◌≤◌, ◌^◌, List, [], ◌∷◌, length, Option, Some, true, ap, ◌∙◌, subst, arith}
use Rattle.std.specs.List.{slice_get}
use Rattle.std.specs.Option.{option_and_then}
use Rattle.std.proofs.Math.Nat.{mul-le-mul_left}
use Rattle.std.proofs.lemmas.Bool.Decides.{nat_tests}
use Rattle.gc_types.specs.declared.kind.Layouts.{Layouts}
use Rattle.gc_types.specs.declared.kind.Layouts.TheVariants.{Null, Counting, Copying}
use Rattle.gc_types.specs.declared.value.FieldType.{FieldType}
use Rattle.gc_types.specs.Declarations.{struct_fields_at, elem_at}
use Rattle.gc_types.specs.Layouts.{storage_width}
use Rattle.gc_view.specs.Sizes.{too_large}
use Rattle.gc_view.proofs.Layouts.{storage_width_positive}
use Rattle.gc_model.specs.Sizes.{object_size, elements_size}
use Rattle.gc_model.specs.Values.{Value, array}
use Rattle.gc_model.specs.Live.{roots_full}
use Rattle.gc_model.specs.Stores.{StoreView}
use Rattle.gc_commands.specs.declared.reply.Refusal.TheVariants as refusal
use Rattle.gc_values.specs.declared.root.RawValue.{RawValue}
use Rattle.gc_store.specs.Requests.{CanPlaceStruct, CanPlaceElements}
use Rattle.gc_script.specs.declared.objects.ValueTypes.TheVariants as types_of
use Rattle.gc_script.specs.State.{State}
use Rattle.gc_script.specs.Steps.{first_failing, heap_tests}
use Rattle.gc_script.specs.Values.{CanStoreRaw, AllRawStorable}
use Rattle.gc_script.proofs.TestLemmas.{stops}
use Rattle.gc_script.proofs.MakeTests.{struct_types}

-- values that may be stored may be those of a struct
pub struct_request : (layouts : Layouts) (store : StoreView ℕ) (t : ℕ) (raws : List RawValue) (fields : List FieldType) → struct_fields_at store.types t ≡ Some fields → length raws ≡ length fields → AllRawStorable layouts store (types_of.Fields t) raws → CanPlaceStruct ℕ layouts store t raws
struct_request layouts store t raws fields declared many all = record {
  fields = fields;
  declared = declared;
  same_count = many;
  each = λ i field r field_is r_is.
      subst (λ (f : Option FieldType). CanStoreRaw layouts store f r)
      (ap (option_and_then (λ (fs : List FieldType). slice_get fs i)) (struct_types store.types t fields declared) ∙ field_is) (all i r r_is);
}

-- or the elements of an array
pub elements_request : (layouts : Layouts) (store : StoreView ℕ) (t n : ℕ) (raws : List RawValue) (element : FieldType) → elem_at store.types t ≡ Some element → length raws ≡ n → AllRawStorable layouts store (types_of.Elements element) raws → CanPlaceElements ℕ layouts store t n raws
elements_request layouts store t n raws element declared many all = record {
  element = element;
  declared = declared;
  same_count = many;
  each = λ i r r_is. all i r r_is;
}

-- no heap has room for so many elements
many_bytes : (layouts : Layouts) (element : FieldType) (n : ℕ) → 2 ^ 32 ≤ n → 2 ^ 32 ≤ elements_size layouts (Some element) n
many_bytes layouts element n many =
    let wide : n * 1 ≤ n * storage_width element.element_type = mul-le-mul_left n (storage_width_positive element.element_type) in
    omega (arith, wide, many)

large_by : (layouts : Layouts) (size : ℕ) → 2 ^ 32 ≤ size → too_large layouts size ≡ true
large_by Null size many = grind (arith, nat_tests, many)
large_by Counting size many = grind (arith, nat_tests, many)
large_by Copying size many = grind (arith, nat_tests, many)

pub many_refused : (layouts : Layouts) (s : State) (t : ℕ) (values : List Value) (element : FieldType) → elem_at s.table.types t ≡ Some element → 2 ^ 32 ≤ length values → first_failing (heap_tests layouts s (array t values)) ≡ Some refusal.TooLarge
many_refused layouts s t values element declared many =
    stops (too_large layouts (object_size {D = ℕ} layouts s.table.types (array t values))) refusal.TooLarge ((roots_full s.table, refusal.RootsFull) ∷ [])
    (ap (λ (e : Option FieldType). too_large layouts (elements_size layouts e (length values))) declared
    ∙ large_by layouts (elements_size layouts (Some element) (length values)) (many_bytes layouts element (length values) many))
