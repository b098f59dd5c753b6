-- The line of an object says the object.
use Rattle.std.proofs.Common.{inl, inr, ◌≡◌, ℕ, zero, suc, ◌<◌, ◌^◌, List, [], ◌∷◌, ◌++◌, length, map, take, drop, get_or, Some, None, Option, true, false, sym, ap, ◌∙◌, refl, subst, arith, Contains, Fits, w8}
use Rattle.std.specs.List.{slice_get, AllByRecursion}
use Rattle.std.specs.Prelude.{option_map, option_and_then}
use Rattle.std.proofs.lemmas.List.{take_all, drop_all, append-nil, length-take}
use Rattle.std.proofs.lemmas.List.Sums.{sum_by-cons}
use Rattle.std.proofs.lemmas.Option.{none-some, same_Some, slice_get_within, slice_get_cases}
use Rattle.gc_types.specs.declared.kind.Layouts.{Layouts}
use Rattle.gc_types.specs.declared.kind.TypeKind.TheVariants as kinds
use Rattle.gc_types.specs.declared.value.FieldType.{FieldType}
use Rattle.gc_types.specs.declared.value.StorageType.TheVariants as storage
use Rattle.gc_types.specs.declared.value.Tag.{Tag}
use Rattle.gc_types.specs.declared.value.ValType.{ValType}
use Rattle.gc_types.specs.Declarable.{AreDeclared}
use Rattle.gc_types.specs.Declarations.{Declaration, Shape, struct_of, array_of, exn_of, func_of, shape_kind, shape_struct_fields, shape_elem, declaration_struct_fields, declaration_elem, struct_fields_at, elem_at, constant_field}
use Rattle.gc_types.specs.Layouts.{struct_base, exception_base}
use Rattle.gc_view.specs.Heaps.{HeapObject}
use Rattle.gc_view.specs.Slots.{shape_slots}
use Rattle.gc_view.proofs.SlotLemmas.{length-field_slots}
use Rattle.gc_owner.specs.declared.entry.GcClass.{GcClass}
use Rattle.gc_model.specs.Forms.{Names}
use Rattle.gc_model.specs.Reach.{object_values}
use Rattle.gc_model.specs.Sizes.{exn_fields_at, shape_exn_fields}
use Rattle.gc_model.specs.Standing.{Stands}
use Rattle.gc_model.specs.Stored.{byte_value}
use Rattle.gc_model.specs.Values.{Value, reference, at, Object, struct, array, host, exception}
use Rattle.gc_paths.specs.Progress.{present_in_value, values_count}
use Rattle.gc_image.specs.declared.image.ImageValue.{ImageValue}
use Rattle.gc_image.specs.declared.image.ObjectLine.{ObjectLine}
use Rattle.gc_image.specs.declared.image.ObjectLine.TheVariants as line
use Rattle.gc_image.specs.Images.{placed_value}
use Rattle.gc_image.specs.Text.{FitsImageValue}
use Rattle.gc_image.specs.Well.{IsPacked, as_value, number_named}
use Rattle.gc_save_image.specs.Collection.{is_plain}
use Rattle.gc_save_image.specs.Progress.{Agrees, SaysFirst, SaysObject, SaysValue}
use Rattle.gc_save_image.specs.Steps.{IsWordsLine}

-- the numbers of a list of bytes are below 256
pub all_small : (xs : List ℕ) → ((i : ℕ) → Fits w8 (get_or xs i 0)) → AllByRecursion (λ b. b < 2 ^ 8) xs
all_small [] fits = tt
all_small (x ∷ xs) fits = ((fits 0).fits, all_small xs (λ i. fits (suc i)))

-- a buffer that was lent whole has what was written into it
pub lent_whole : (written before : List ℕ) (n : ℕ) → length written ≡ length before → n ≡ length before → take n (written ++ drop (length written) before) ≡ written
lent_whole written before n same is =
    ap (λ (xs : List ℕ). take n (written ++ xs)) (drop_all (length written) before (omega (arith, same)))
    ∙ ap (take n) (append-nil written) ∙ take_all n written (omega (arith, same, is))

-- What is declared of an object's type

abbrev pub IsDeclared : List Declaration → Object ℕ → Type 0
IsDeclared types (struct ty values) = (fields : List FieldType) × ((struct_fields_at types ty ≡ Some fields) × (length values ≡ length fields))
IsDeclared types (array ty values) = (elem : FieldType) × (elem_at types ty ≡ Some elem)
IsDeclared types (host n) = Unit {0}
IsDeclared types (exception ty tag values) = (fields : List FieldType) × ((exn_fields_at types ty ≡ Some fields) × (length values ≡ length fields))

at_struct : (d : Option Declaration) (fields : List FieldType) → option_map (λ (x : Declaration). x.shape) d ≡ Some (struct_of fields) → declaration_struct_fields d ≡ Some fields
at_struct None fields e = absurd (none-some (struct_of fields) e)
at_struct (Some d) fields e = ap shape_struct_fields (same_Some d.shape (struct_of fields) e)

at_array : (d : Option Declaration) (elem : FieldType) → option_map (λ (x : Declaration). x.shape) d ≡ Some (array_of elem) → declaration_elem d ≡ Some elem
at_array None elem e = absurd (none-some (array_of elem) e)
at_array (Some d) elem e = ap shape_elem (same_Some d.shape (array_of elem) e)

at_exn : (types : List Declaration) (ty : ℕ) (params : List ValType) → option_map (λ (x : Declaration). x.shape) (slice_get types ty) ≡ Some (exn_of params) → exn_fields_at types ty ≡ Some (map constant_field params)
at_exn types ty params e = by (slice_get types ty) e
  where
    by : (d : Option Declaration) → option_map (λ (x : Declaration). x.shape) d ≡ Some (exn_of params) → option_and_then (λ (x : Declaration). shape_exn_fields x.shape) d ≡ Some (map constant_field params)
    by None e = absurd (none-some (exn_of params) e)
    by (Some d) e = ap shape_exn_fields (same_Some d.shape (exn_of params) e)

module _ (layouts : Layouts) (types : List Declaration) (names : Names) (ty : ℕ) (values : List Value) (h : HeapObject) where
  struct_declared : (shape : Shape) (n : ℕ) → option_map (λ (d : Declaration). d.shape) (slice_get types ty) ≡ Some shape → shape_kind shape ≡ kinds.Struct → length values ≡ length (shape_slots layouts shape n) → IsDeclared types (struct ty values)
  struct_declared (struct_of fields) n e is long = (fields, (at_struct (slice_get types ty) fields e, long ∙ length-field_slots (struct_base layouts) fields))
  struct_declared (array_of element) n e is long = absurd (cc is)
  struct_declared (exn_of params) n e is long = absurd (cc is)
  struct_declared (func_of params results) n e is long = absurd (cc is)

  array_declared : (shape : Shape) → option_map (λ (d : Declaration). d.shape) (slice_get types ty) ≡ Some shape → shape_kind shape ≡ kinds.Array → IsDeclared types (array ty values)
  array_declared (struct_of fields) e is = absurd (cc is)
  array_declared (array_of element) e is = (element, at_array (slice_get types ty) element e)
  array_declared (exn_of params) e is = absurd (cc is)
  array_declared (func_of params results) e is = absurd (cc is)

  exn_declared : (tag : Tag) (shape : Shape) (n : ℕ) → option_map (λ (d : Declaration). d.shape) (slice_get types ty) ≡ Some shape → shape_kind shape ≡ kinds.Exn → length values ≡ length (shape_slots layouts shape n) → IsDeclared types (exception ty tag values)
  exn_declared tag (struct_of fields) n e is long = absurd (cc is)
  exn_declared tag (array_of element) n e is long = absurd (cc is)
  exn_declared tag (exn_of params) n e is long = (map constant_field params, (at_exn types ty params e, long ∙ length-field_slots (exception_base layouts) (map constant_field params)))
  exn_declared tag (func_of params results) n e is long = absurd (cc is)

pub is_declared : (layouts : Layouts) (types : List Declaration) (names : Names) (o : Object ℕ) (h : HeapObject) → Stands layouts types names o h → IsDeclared types o
is_declared layouts types names (struct ty values) h stands = struct_declared layouts types names ty values h stands.stands.shape stands.stands.count stands.stands.declared stands.stands.of_kind stands.stands.values_lie.same_count
is_declared layouts types names (array ty values) h stands = array_declared layouts types names ty values h stands.stands.shape stands.stands.declared stands.stands.of_kind
is_declared layouts types names (host n) h stands = tt
is_declared layouts types names (exception ty tag values) h stands = exn_declared layouts types names ty values h tag stands.stands.shape stands.stands.count stands.stands.declared stands.stands.of_kind stands.stands.values_lie.same_count

-- a declared type's index
below : (types : List Declaration) (ty : ℕ) (d : Declaration) → AreDeclared types → slice_get types ty ≡ Some d → ty < 4294967295
below types ty d declared e =
    let few = (declared.each ty d e).few_types in
    let inside = slice_get_within types ty d e in
    let long = length-take ty types in
    omega (arith, few, inside, long)

type_below : (types : List Declaration) (ty : ℕ) → AreDeclared types → (slice_get types ty ≡ None → ⊥) → ty < 4294967295
type_below types ty declared some = elim ((slice_get_cases types ty).1) [
  | inl found ↦ below types ty found.0 declared found.2
  | inr past ↦ absurd (some past.1)
]

-- Words and values

words_are : (position : ℕ → ℕ) (vs : List Value) (ws : List ImageValue) → length ws ≡ length vs → ((i : ℕ) (v : Value) (x : ImageValue) → slice_get vs i ≡ Some v → slice_get ws i ≡ Some x → v ≡ placed_value position (as_value x))
    → vs ≡ map (placed_value position) (map as_value ws)
words_are position [] [] same each = refl
words_are position [] (x ∷ ws) same each = absurd (omega (arith, same))
words_are position (v ∷ vs) [] same each = absurd (omega (arith, same))
words_are position (v ∷ vs) (x ∷ ws) same each = λ i. each 0 v x refl refl i ∷ words_are position vs ws (omega (arith, same)) (λ j. each (suc j)) i

all_fit : (told : List ℕ) (vs : List Value) (ws : List ImageValue) → length ws ≡ length vs → ((i : ℕ) (v : Value) (x : ImageValue) → slice_get vs i ≡ Some v → slice_get ws i ≡ Some x → SaysValue told v x) → AllByRecursion FitsImageValue ws
all_fit told vs [] same each = tt
all_fit told [] (x ∷ ws) same each = absurd (omega (arith, same))
all_fit told (v ∷ vs) (x ∷ ws) same each = ((each 0 v x refl refl).fits, all_fit told vs ws (omega (arith, same)) (λ j. each (suc j)))

module _ (told : List ℕ) (vs : List Value) (ws : List ImageValue) (says : SaysFirst told (length vs) vs ws) where
  values_placed : ((i : ℕ) (v : Value) → slice_get vs i ≡ Some v → is_plain v ≡ true) → (position : ℕ → ℕ) → Agrees told position → vs ≡ map (placed_value position) (map as_value ws)
  values_placed plain position agrees = words_are position vs ws says.same_count (λ i v x at_v at_x. (says.each i v x at_v at_x).is (plain i v at_v) position agrees)

  values_named : (i number : ℕ) (x : ImageValue) → slice_get ws i ≡ Some x → number_named x ≡ Some number → number < length told
  values_named i number x at_x names = elim ((slice_get_cases vs i).1) [
    | inl found ↦ (says.each i found.0 x found.2 at_x).named number names
    | inr past ↦ absurd (let inside = slice_get_within ws i x at_x in let same = says.same_count in omega (arith, inside, same, past.0))
  ]

  values_lead : (i : ℕ) (class : GcClass) (p : ℕ) → slice_get vs i ≡ Some (reference class (at p)) → Contains told p
  values_lead i class p at_v = elim ((slice_get_cases ws i).1) [
    | inl found ↦ (says.each i (reference class (at p)) found.0 at_v found.2).leads class p refl
    | inr past ↦ absurd (let inside = slice_get_within vs i (reference class (at p)) at_v in let same = says.same_count in omega (arith, inside, same, past.0))
  ]

module _ (types : List Declaration) (declared : AreDeclared types) (told : List ℕ) (ws : List ImageValue) where
  pub words_say : (o : Object ℕ) (l : ObjectLine) → IsDeclared types o → ((ty : ℕ) (values : List Value) (elem : FieldType) → o ≡ array ty values → elem_at types ty ≡ Some elem → elem.element_type ≡ storage.I8 → ⊥)
      → SaysFirst told (length (object_values o)) (object_values o) ws → IsWordsLine (Some o) ws l → SaysObject types told o l
  words_say (struct ty values) l is other says at_l = subst (SaysObject types told (struct ty values)) (sym at_l) (record {
    is = λ plain position agrees. ap (struct ty) (values_placed told values ws says plain position agrees);
    shape = ap (option_map length) is.1.0 ∙ ap Some (sym is.1.1 ∙ sym says.same_count);
    named = values_named told values ws says;
    leads = values_lead told values ws says;
    fits = (type_below types ty declared (λ none. none-some is.0 (sym (ap declaration_struct_fields none) ∙ is.1.0)), all_fit told values ws says.same_count says.each);
  })
  words_say (array ty values) l is other says at_l = subst (SaysObject types told (array ty values)) (sym at_l) (record {
    is = λ plain position agrees. ap (array ty) (values_placed told values ws says plain position agrees);
    shape = subst (λ (e : Option FieldType). IsPacked e false) (sym is.1) (λ packed. other ty values is.0 refl is.1 packed);
    named = values_named told values ws says;
    leads = values_lead told values ws says;
    fits = (type_below types ty declared (λ none. none-some is.0 (sym (ap declaration_elem none) ∙ is.1)), all_fit told values ws says.same_count says.each);
  })
  words_say (host n) l is other says at_l = subst (SaysObject types told (host n)) (sym at_l.0) (record {
    is = λ plain position agrees. refl;
    shape = tt;
    named = λ i number x at_x names. absurd (none-some x at_x);
    leads = λ i class p at_v. absurd (none-some (reference class (at p)) at_v);
    fits = at_l.1;
  })
  words_say (exception ty tag values) l is other says at_l = subst (SaysObject types told (exception ty tag values)) (sym at_l.0) (record {
    is = λ plain position agrees. ap (exception ty tag) (values_placed told values ws says plain position agrees);
    shape = ap (option_map length) is.1.0 ∙ ap Some (sym is.1.1 ∙ sym says.same_count);
    named = values_named told values ws says;
    leads = values_lead told values ws says;
    fits = (
      type_below types ty declared (λ none. none-some is.0 (sym (ap (option_and_then (λ (x : Declaration). shape_exn_fields x.shape)) none) ∙ is.1.0)),
      at_l.1,
      at_l.2,
      all_fit told values ws says.same_count says.each,
    );
  })

-- Bytes

bytes_placed : (position : ℕ → ℕ) (bytes : List ℕ) → map byte_value bytes ≡ map (placed_value position) (map byte_value bytes)
bytes_placed position [] = refl
bytes_placed position (b ∷ bytes) = ap (λ vs. byte_value b ∷ vs) (bytes_placed position bytes)

no_reference : (bytes : List ℕ) (i : ℕ) (class : GcClass) (p : ℕ) → slice_get (map byte_value bytes) i ≡ Some (reference class (at p)) → ⊥
no_reference [] i class p e = none-some (reference class (at p)) e
no_reference (b ∷ bytes) zero class p e = differ (same_Some (byte_value b) (reference class (at p)) e)
  where
    differ : byte_value b ≡ reference class (at p) → ⊥
    differ e = cc
no_reference (b ∷ bytes) (suc i) class p e = no_reference bytes i class p e

pub bytes_count : (bytes : List ℕ) → values_count (map byte_value bytes) ≡ 0
bytes_count [] = refl
bytes_count (b ∷ bytes) = let more = sum_by-cons present_in_value (byte_value b) (map byte_value bytes) in let rest = bytes_count bytes in omega (arith, more, rest)

pub bytes_say : (types : List Declaration) → AreDeclared types → (told : List ℕ) (ty : ℕ) (bytes : List ℕ) (l : ObjectLine) → l ≡ line.Bytes ty bytes → IsPacked (elem_at types ty) true → AllByRecursion (λ b. b < 2 ^ 8) bytes
    → SaysObject types told (array ty (map byte_value bytes)) l
bytes_say types declared told ty bytes l at_l packed small = subst (SaysObject types told (array ty (map byte_value bytes))) (sym at_l) (record {
  is = λ plain position agrees. ap (array ty) (bytes_placed position bytes);
  shape = packed;
  named = λ i number x at_x names. absurd (none-some x at_x);
  leads = λ i class p at_v. absurd (no_reference bytes i class p at_v);
  fits = (type_below types ty declared (λ none. subst (λ (d : Option Declaration). IsPacked (declaration_elem d) true) none packed), small);
})
