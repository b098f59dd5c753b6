-- How many values an object has, and how many of them are references: that goes by its type.
use mir.Val.{bool_byte}
use Rattle.std.proofs.Common.{◌≡◌, ℕ, ◌+◌, suc, Bool, true, false, ◌≤◌, ◌<◌, drop, Fits, w32, List, [], ◌∷◌, length, Option, Some, None, Result, Ok, IsSome, if◌then◌else◌, sym, ap, ◌∙◌, refl, subst, arith}
use Rattle.std.specs.List.{slice_get}
use Rattle.std.specs.Option.{option_map}
use Rattle.std.proofs.lemmas.List.{length-drop, drop_all}
use Rattle.std.proofs.lemmas.Option.{none-some}
use Rattle.gc_types.specs.declared.kind.Layouts.{Layouts}
use Rattle.gc_types.specs.declared.value.FieldType.{FieldType}
use Rattle.gc_types.specs.Declarable.{AreDeclared}
use Rattle.gc_types.specs.Declarations.{Declaration, fields_at, elem_at, max_fields}
use Rattle.gc_types.specs.Layouts.{is_gc_storage}
use Rattle.gc_model.specs.Values.{Reference, null, small, at, Value, numeric, function, continuation, reference, Object, struct, array, exception}
use Rattle.gc_model.specs.Forms.{value_form}
use Rattle.gc_model.specs.Holds.{HoldsTable}
use Rattle.gc_model.specs.Reach.{object_values}
use Rattle.gc_model.specs.Stored.{value_type, listed_type}
use Rattle.gc_model.specs.Stores.{StoreView}
use Rattle.gc_model.specs.Table.{Table}
use Rattle.gc_model.proofs.Fitting.{fits-form}
use Rattle.gc_model.proofs.ReadingBack.{storage_reference}
use Rattle.gc_model.proofs.PointParts.{is_reference}
use Rattle.gc_values.specs.declared.root.GcRootIndex.{GcRootIndex}
use Rattle.gc_values.specs.declared.root.RootFault.{RootFault}
use Rattle.gc_values.specs.declared.root.RootedObject.TheVariants as rooted_object
use Rattle.gc_store.specs.Roots.{is_of_store, NamesReference, FindsRoot}
use Rattle.gc_objects.specs.declared.places.NamedArray.{NamedArray}
use Rattle.gc_objects.specs.declared.places.NamedExn.{NamedExn}
use Rattle.gc_objects.specs.Answered.{Answers, IsStruct, IsNamedArray}
use Rattle.gc_objects.specs.Exns.{IsNamedExn}
use Rattle.gc_objects.specs.Given.{field_types}
use Rattle.gc_objects.specs.ValueRuns.{one_if, is_reference_field, reference_value_count, reference_fields, HasCounts}
use Rattle.gc_objects.proofs.ExnLemmas.{tells_exn, exn_typed}
use Rattle.gc_types.proofs.FewFields.{few_fields}
use Rattle.gc_objects.proofs.Questions.{tells_struct}
use Rattle.gc_objects.proofs.TypedObjects.{struct_typed, array_typed, listed_at}
use Rattle.gc_objects.proofs.ValueGiving.{first_left}

-- whether a value is a reference
abbrev pub is_ref : Value → Bool
is_ref x = is_reference (value_form x)

pub count_head : (x : Value) (xs : List Value) → reference_value_count (x ∷ xs) ≡ one_if (is_ref x) + reference_value_count xs
count_head (numeric kind n) xs = omega (arith)
count_head (function f) xs = omega (arith)
count_head (continuation c) xs = omega (arith)
count_head (reference class r) xs = omega (arith)

-- a value for each field, which is a reference exactly where the field keeps references
fields_alike : (fields : List FieldType) (xs : List Value) → length xs ≡ length fields
    → ((i : ℕ) (x : Value) (field : FieldType) → slice_get xs i ≡ Some x → slice_get fields i ≡ Some field → is_gc_storage field.element_type ≡ is_ref x)
    → reference_fields fields ≡ reference_value_count xs
fields_alike [] [] e each = refl
fields_alike [] (x ∷ xs) e each = absurd (omega (arith, e))
fields_alike (field ∷ fields) [] e each = absurd (omega (arith, e))
fields_alike (field ∷ fields) (x ∷ xs) e each =
    (λ i. one_if (each 0 x field refl refl i) + fields_alike fields xs (omega (arith, e)) (λ j. each (suc j)) i) ∙ sym (count_head x xs)

-- elements that are all references, or none
elements_alike : (b : Bool) (xs : List Value) → ((i : ℕ) (x : Value) → slice_get xs i ≡ Some x → b ≡ is_ref x) → (if b then length xs else 0) ≡ reference_value_count xs
elements_alike true [] each = refl
elements_alike false [] each = refl
elements_alike true (x ∷ xs) each =
    let rest : length xs ≡ reference_value_count xs = elements_alike true xs (λ i. each (suc i)) in
    let first : one_if true ≡ one_if (is_ref x) = ap one_if (each 0 x refl) in
    let one : one_if true ≡ 1 = refl in
    omega (arith, rest, first, one, count_head x xs)
elements_alike false (x ∷ xs) each =
    let rest : 0 ≡ reference_value_count xs = elements_alike false xs (λ i. each (suc i)) in
    let first : one_if false ≡ one_if (is_ref x) = ap one_if (each 0 x refl) in
    let none : one_if false ≡ 0 = refl in
    omega (arith, rest, first, none, count_head x xs)

module _ {D : Type 0} (layouts : Layouts) (s : StoreView D) (t : Table D) (holds : HoldsTable layouts s t) (root : GcRootIndex) (len references : ℕ) where
  -- a value is a reference exactly where its type says so
  is_typed_so : (p i : ℕ) (o : Object D) (x : Value) (field : FieldType) → slice_get t.objects p ≡ Some o → slice_get (object_values o) i ≡ Some x → value_type t.types o i ≡ Some field
      → is_gc_storage field.element_type ≡ is_ref x
  is_typed_so p i o x field at_p at_i type_is =
      let typed = holds.1.typed p i o x at_p at_i in
      let both : Some typed.field ≡ Some field = sym typed.field_is ∙ type_is in
      let same : field ≡ typed.field = grind (arith, both) in
      ap (λ (f : FieldType). is_gc_storage f.element_type) same
      ∙ storage_reference typed.field.element_type
      ∙ ap is_reference (fits-form t.types t.objects typed.field.element_type x typed.is_fit)

  module _ (p : ℕ) (o : Object D) (named : NamesReference s t root (at p)) (object_is : slice_get t.objects p ≡ Some o) where
    has_fields : (fields : List FieldType) → length (object_values o) ≡ length fields → ((i : ℕ) → value_type t.types o i ≡ slice_get fields i)
        → len ≡ length fields → references ≡ reference_fields fields → HasCounts s t root len references
    has_fields fields count types len_is references_are = record {
      names = record { position = p; named = named; object = o; object_is = object_is };
      len_is = len_is ∙ sym count;
      references_are = references_are ∙ fields_alike fields (object_values o) count (λ i x field at_x at_field. is_typed_so p i o x field object_is at_x (types i ∙ at_field));
    }

    has_elements : (element : FieldType) → ((i : ℕ) → value_type t.types o i ≡ Some element)
        → len ≡ length (object_values o) → references ≡ (if is_gc_storage element.element_type then len else 0) → HasCounts s t root len references
    has_elements element types len_is references_are = record {
      names = record { position = p; named = named; object = o; object_is = object_is };
      len_is = len_is;
      references_are = references_are ∙ ap (λ (n : ℕ). if is_gc_storage element.element_type then n else 0) len_is
          ∙ elements_alike (is_gc_storage element.element_type) (object_values o) (λ i x at_x. is_typed_so p i o x element object_is at_x (types i));
    }

  -- of a struct that is named
  struct_has : (r : Reference) (ty : ℕ) → NamesReference s t root r → IsStruct t r ty
      → ((fields : List FieldType) → fields_at s.types ty ≡ Some fields → len ≡ length fields) → ((fields : List FieldType) → fields_at s.types ty ≡ Some fields → references ≡ reference_fields fields)
      → HasCounts s t root len references
  struct_has null ty named is len_is references_are = absurd (none-some _ is.1)
  struct_has (small n) ty named is len_is references_are = absurd (none-some _ is.1)
  struct_has (at p) ty named is len_is references_are =
      let typed = struct_typed layouts s t holds root (at p) ty named is in
      let listed = ap (λ (types : List Declaration). fields_at types ty) holds.1.types ∙ typed.listed in
      has_fields p (struct ty is.0) named is.1 typed.fields typed.count (λ i. ap (λ (o : Option (List FieldType)). listed_type o i) typed.struct_listed) (len_is typed.fields listed) (references_are typed.fields listed)

  -- of an exception
  exn_has : (r : Reference) (which : NamedExn) → NamesReference s t root r → IsNamedExn t r which
      → ((fields : List FieldType) → fields_at s.types which.ty ≡ Some fields → len ≡ length fields) → ((fields : List FieldType) → fields_at s.types which.ty ≡ Some fields → references ≡ reference_fields fields)
      → HasCounts s t root len references
  exn_has null which named is len_is references_are = absurd (none-some _ is.1)
  exn_has (small n) which named is len_is references_are = absurd (none-some _ is.1)
  exn_has (at p) which named is len_is references_are =
      let typed = exn_typed layouts s t holds root (at p) which named is in
      let listed = ap (λ (types : List Declaration). fields_at types which.ty) holds.1.types ∙ typed.listed in
      has_fields p (exception which.ty which.tag is.0) named is.1 typed.fields typed.count (λ i. ap (λ (o : Option (List FieldType)). listed_type o i) typed.exn_listed) (len_is typed.fields listed) (references_are typed.fields listed)

  -- of an array
  array_has : (r : Reference) (which : NamedArray) → NamesReference s t root r → IsNamedArray t r which
      → len ≡ which.len → ((element : FieldType) → elem_at s.types which.ty ≡ Some element → references ≡ (if is_gc_storage element.element_type then which.len else 0))
      → HasCounts s t root len references
  array_has null which named is len_is references_are = absurd (none-some _ is.1.0)
  array_has (small n) which named is len_is references_are = absurd (none-some _ is.1.0)
  array_has (at p) which named is len_is references_are =
      let typed = array_typed layouts s t holds root (at p) which named is in
      let declared = ap (λ (types : List Declaration). elem_at types which.ty) holds.1.types ∙ typed.element_is in
      has_elements p (array which.ty is.0) named is.1.0 typed.element (λ i. typed.element_is) (len_is ∙ is.1.1)
      (references_are typed.element declared ∙ ap (λ (n : ℕ). if is_gc_storage typed.element.element_type then n else 0) (sym len_is))

  -- so by what the store says of it
  pub struct_counts : (result : Result ℕ RootFault) (ty : ℕ) → result ≡ Ok ty → Answers s t (is_of_store s root) root (IsStruct t) result
      → ((fields : List FieldType) → fields_at s.types ty ≡ Some fields → len ≡ length fields) → ((fields : List FieldType) → fields_at s.types ty ≡ Some fields → references ≡ reference_fields fields)
      → HasCounts s t root len references
  struct_counts result ty is answers =
      let ok = subst (λ (q : Result ℕ RootFault). Answers s t (is_of_store s root) root (IsStruct t) q) is answers in
      struct_has ok.1.0 ty ok.1.1.0 ok.1.1.1

  pub exn_counts : (result : Result NamedExn RootFault) (which : NamedExn) → result ≡ Ok which → Answers s t (is_of_store s root) root (IsNamedExn t) result
      → ((fields : List FieldType) → fields_at s.types which.ty ≡ Some fields → len ≡ length fields) → ((fields : List FieldType) → fields_at s.types which.ty ≡ Some fields → references ≡ reference_fields fields)
      → HasCounts s t root len references
  exn_counts result which is answers =
      let ok = subst (λ (q : Result NamedExn RootFault). Answers s t (is_of_store s root) root (IsNamedExn t) q) is answers in
      exn_has ok.1.0 which ok.1.1.0 ok.1.1.1

  pub array_counts : (result : Result NamedArray RootFault) (which : NamedArray) → result ≡ Ok which → Answers s t (is_of_store s root) root (IsNamedArray t) result
      → len ≡ which.len → ((element : FieldType) → elem_at s.types which.ty ≡ Some element → references ≡ (if is_gc_storage element.element_type then which.len else 0))
      → HasCounts s t root len references
  array_counts result which is answers =
      let ok = subst (λ (q : Result NamedArray RootFault). Answers s t (is_of_store s root) root (IsNamedArray t) q) is answers in
      array_has ok.1.0 which ok.1.1.0 ok.1.1.1

-- the fields of a type that was found are listed
module _ {D : Type 0} (layouts : Layouts) (s : StoreView D) (root : GcRootIndex) where
  pub struct_listed : (ty : ℕ) → FindsRoot D layouts s root (rooted_object.Struct ty) → IsSome (fields_at s.types ty)
  struct_listed ty found =
      let told = tells_struct found.table (rooted_object.Struct ty) ty refl found.root found.is in
      let typed = struct_typed layouts s found.table found.holds root found.root ty found.named told in
      subst (λ (o : Option (List FieldType)). IsSome o) (sym (ap (λ (types : List Declaration). fields_at types ty) found.holds.1.types ∙ typed.listed)) refl

  pub exn_listed : (which : NamedExn) → FindsRoot D layouts s root (rooted_object.Exn which.ty which.tag) → IsSome (fields_at s.types which.ty)
  exn_listed which found =
      let told = tells_exn found.table (rooted_object.Exn which.ty which.tag) which refl found.root found.is in
      let typed = exn_typed layouts s found.table found.holds root found.root which found.named told in
      subst (λ (o : Option (List FieldType)). IsSome o) (sym (ap (λ (types : List Declaration). fields_at types which.ty) found.holds.1.types ∙ typed.listed)) refl

-- So many fields of a type were looked at, and of those and the others together so many keep references.
pub record CountedSoFar (types : List Declaration) (ty len references index : ℕ) : Type 0 where
  pub few : references ≤ index
  pub within : index ≤ len
  pub goes_on : (fields : List FieldType) → fields_at types ty ≡ Some fields → len ≡ length fields → references + reference_fields (drop index fields) ≡ reference_fields fields

pub counted_none : (types : List Declaration) (ty len : ℕ) → CountedSoFar types ty len 0 0
counted_none types ty len = record { few = omega (arith); within = omega (arith); goes_on = λ fields listed count. omega (arith) }

field_alone : (types : List Declaration) (ty index : ℕ) (fields : List FieldType) (field : FieldType) (rest : List FieldType) → fields_at types ty ≡ Some fields → drop index fields ≡ field ∷ rest
    → is_reference_field (field_types types ty index) ≡ is_gc_storage field.element_type
field_alone types ty index fields field rest listed left =
    ap is_reference_field (listed_at (fields_at types ty) fields index listed ∙ (first_left index fields field rest left).0)

one_more : (b : Bool) (n references k : ℕ) → k ≡ one_if b → references + (one_if b + n) ≡ references + k + n
one_more b n references k is = omega (arith, is)

pub one_at_most : (b : Bool) → one_if b ≤ 1
one_at_most true = omega (arith)
one_at_most false = omega (arith)

pub byte_one : (b : Bool) → bool_byte b ≡ one_if b
byte_one true = refl
byte_one false = refl

-- one more field was looked at
pub counted_more : (types : List Declaration) (ty len references index : ℕ) → CountedSoFar types ty len references index → index < len → (b : Bool) → b ≡ is_reference_field (field_types types ty index)
    → (k : ℕ) → k ≡ one_if b → CountedSoFar types ty len (references + k) (index + 1)
counted_more types ty len references index so_far within b b_is k k_is = record {
  few = let before = so_far.few in let most = one_at_most b in omega (arith, before, most, k_is);
  within = omega (arith, within);
  goes_on = λ fields listed count. by fields listed count (drop index fields) refl;
}
  where
    by : (fields : List FieldType) → fields_at types ty ≡ Some fields → len ≡ length fields → (left : List FieldType) → drop index fields ≡ left
        → references + k + reference_fields (drop (index + 1) fields) ≡ reference_fields fields
    by fields listed count [] left = absurd (let none : length (drop index fields) ≡ 0 = ap (λ (xs : List FieldType). length xs) left in omega (arith, none, within, count, length-drop index fields))
    by fields listed count (field ∷ rest) left =
        let first = first_left index fields field rest left in
        let test : b ≡ is_gc_storage field.element_type = b_is ∙ field_alone types ty index fields field rest listed left in
        let whole : references + reference_fields (drop index fields) ≡ reference_fields fields = so_far.goes_on fields listed count in
        let parts : reference_fields (drop index fields) ≡ one_if (is_gc_storage field.element_type) + reference_fields rest = ap reference_fields left in
        let others : reference_fields (drop (index + 1) fields) ≡ reference_fields rest = ap reference_fields first.1 in
        let one : k ≡ one_if (is_gc_storage field.element_type) = k_is ∙ ap one_if test in
        omega (arith, whole, parts, others, one)

-- all were
pub counted_all : (types : List Declaration) (ty len references index : ℕ) → CountedSoFar types ty len references index → len ≤ index
    → (fields : List FieldType) → fields_at types ty ≡ Some fields → len ≡ length fields → references ≡ reference_fields fields
counted_all types ty len references index so_far past fields listed count =
    let whole : references + reference_fields (drop index fields) ≡ reference_fields fields = so_far.goes_on fields listed count in
    let none : reference_fields (drop index fields) ≡ 0 = ap reference_fields (drop_all index fields (omega (arith, past, count))) in
    omega (arith, whole, none)

count_fits : (o : Option (List FieldType)) (len : ℕ) → ((fields : List FieldType) → o ≡ Some fields → length fields ≤ max_fields) → option_map (λ (xs : List FieldType). length xs) o ≡ Some len → Fits w32 len
count_fits None len few is = absurd (none-some len is)
count_fits (Some fields) len few is =
    let same : length fields ≡ len = grind (arith, is) in
    record { fits = omega (arith, same, few fields refl) }

-- a declared type has few fields, so that their number is a u32
pub len_fits : (types : List Declaration) → AreDeclared types → (ty len : ℕ) (found : Option ℕ) → found ≡ option_map (λ (xs : List FieldType). length xs) (fields_at types ty) → found ≡ Some len → Fits w32 len
len_fits types declared ty len found found_is is = count_fits (fields_at types ty) len (λ fields e. few_fields types ty fields declared e) (sym found_is ∙ is)
