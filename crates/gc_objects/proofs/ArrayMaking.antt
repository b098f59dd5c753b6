-- Making an array: its tests, and what is asked of the store once they passed.
use Rattle.std.proofs.Common.{◌≡◌, ℕ, ◌<◌, true, List, map, length, replicate, Option, Some, None, Result, Ok, Err, IfOk, IsSome, sym, ap, ◌∙◌, refl, subst, arith}
use Rattle.std.specs.Prelude.{option_map}
use Rattle.std.specs.List.{slice_get}
use Rattle.std.proofs.lemmas.Option.{none-some}
use Rattle.gc_types.specs.declared.kind.Layouts.{Layouts}
use Rattle.gc_types.specs.declared.kind.TypeKind.TheVariants as type_kinds
use Rattle.gc_types.specs.declared.kind.VMGcKind.TheVariants as kinds
use Rattle.gc_types.specs.declared.value.FieldType.{FieldType}
use Rattle.gc_types.specs.declared.value.StorageType.TheVariants as storage
use Rattle.gc_types.specs.Declarations.{Declaration, TypeName, Shape, struct_of, array_of, exn_of, func_of, shape_kind, shape_elem, declaration_elem, elem_at, kind_at}
use Rattle.gc_model.specs.Values.{Object, array}
use Rattle.gc_model.specs.Allocation.{Limits}
use Rattle.gc_model.specs.Stored.{stored, byte_value}
use Rattle.gc_model.specs.Table.{Table}
use Rattle.gc_model.specs.Stores.{StoreView}
use Rattle.gc_model.specs.Accounts.{Account, HoldsAccount}
use Rattle.gc_model.specs.Policy.{policy_state}
use Rattle.gc_values.specs.declared.root.GcRootIndex.{GcRootIndex}
use Rattle.gc_values.specs.declared.root.RawValue.{RawValue}
use Rattle.gc_rooted.specs.declared.rooted.Rooted.{Rooted}
use Rattle.gc_store.specs.Places.{RefusesPlace}
use Rattle.gc_store.specs.Requests.{CanPlaceElements, CanPlaceSame, CanPlaceBytes, IsFilled, element_of}
use Rattle.gc_store.specs.Values.{RawStands}
use Rattle.gc_store.specs.Kinds.{IsScopedOfKind}
use Rattle.gc_objects.specs.declared.checks.ValueTypes.TheVariants as value_types
use Rattle.gc_objects.specs.declared.faults.AllocFault.TheVariants as fault
use Rattle.gc_objects.specs.declared.faults.ValueFault.{ValueFault}
use Rattle.gc_objects.specs.declared.faults.ValueFault.TheVariants as value_fault
use Rattle.gc_objects.specs.declared.val.Val.{Val}
use Rattle.gc_objects.specs.Faults.{allocated_value}
use Rattle.gc_objects.specs.Given.{raw_of, types_of, element_types, Goes, Misfits, ChecksValues, ChecksFilling, CanStoreAs, AllStorable, AllGo}
use Rattle.gc_objects.specs.Kinds.{IsDeclaredAs, is_type_of}
use Rattle.gc_objects.specs.Makes.{Fault, Makes, handle_answer, MakesAsked, ElementsCauses, AsksElements, FillingCauses, AsksFilling, BytesCauses, AsksBytes, OfBytes, IsArrayOf, are_given_own, is_filling_own}
use Rattle.gc_objects.proofs.MakeLemmas.{all_stand, can_make_elements, makes_handed, asked_kind, makes_no_value, refused_before}
use Rattle.gc_objects.proofs.Pushing.{held_table}

-- an array type has elements
element_by_shape : (d : Declaration) (shape : Shape) → d.shape ≡ shape → shape_kind shape ≡ type_kinds.Array → (element : FieldType) × (declaration_elem (Some d) ≡ Some element)
element_by_shape d (struct_of fields) same is = absurd (cc is)
element_by_shape d (array_of element) same is = (element, ap shape_elem same)
element_by_shape d (exn_of params) same is = absurd (cc is)
element_by_shape d (func_of params results) same is = absurd (cc is)

element_by_kind : (d : Option Declaration) → option_map (λ (x : Declaration). shape_kind x.shape) d ≡ Some type_kinds.Array → (element : FieldType) × (declaration_elem d ≡ Some element)
element_by_kind None is = absurd (none-some _ is)
element_by_kind (Some d) is = let kind : shape_kind d.shape ≡ type_kinds.Array = grind (arith, is) in element_by_shape d d.shape refl kind

-- so the type that an array is made of
module _ {D : Type 0} (s : StoreView D) (index : ℕ) (ty : TypeName) (index_is : index ≡ ty.index) (of_store : is_type_of s ty ≡ true) (declared : IsDeclaredAs s type_kinds.Array ty) where
  pub has_element : (element : FieldType) × (elem_at s.types index ≡ Some element)
  has_element = element_by_kind (slice_get s.types index) (ap (kind_at s.types) index_is ∙ declared of_store)

  pub has_elements : IsSome (elem_at s.types index)
  has_elements = subst (λ (o : Option FieldType). IsSome o) (sym has_element.1) refl

-- what is asked of the store may be
module _ (D : Type 0) (layouts : Layouts) (s : StoreView D) (index : ℕ) (element : FieldType) (declared : elem_at s.types index ≡ Some element) where
  pub filling_may_be : (v : Val) (count : ℕ) (given : RawValue) → given ≡ raw_of v → (0 < count → CanStoreAs D layouts s (Some element) v) → CanPlaceSame D layouts s index count given
  filling_may_be v count given same storable =
      subst (CanPlaceSame D layouts s index count) (sym same) (record { element = element; declared = declared; fits = storable })

  pub elements_may_be : (vs : List Val) → AllStorable D layouts s (types_of s.types (value_types.Elements index)) vs → CanPlaceElements D layouts s index (length vs) (map raw_of vs)
  elements_may_be vs storable = can_make_elements D layouts s index vs (length vs) element declared refl storable

  pub bytes_may_be : element.element_type ≡ storage.I8 → (bytes : List ℕ) → CanPlaceBytes s index (length bytes) bytes
  bytes_may_be of_bytes bytes = record { element = element; declared = declared; of_bytes = of_bytes; same_count = refl }

-- What the call answers, by its tests and by what the store answers.
module _ {D : Type 0} (T : Type 0) (layouts : Layouts) (counter : Option ℕ) (s : StoreView D) (t : Table D) (a : Account) (limits : Limits) (holds : HoldsAccount layouts s t a)
    (index : ℕ) (ty : TypeName) (index_is : index ≡ ty.index) (element : FieldType) (declared : elem_at s.types index ≡ Some element) where
  abbrev Answer : Type 0
  Answer = Result (Rooted T) Fault

  refuses : RefusesPlace layouts (policy_state t a limits) limits s
  refuses = refused_before layouts s t a limits holds

  -- the type of the elements in the table
  elements_same : elem_at s.types index ≡ elem_at t.types ty.index
  elements_same = ap (λ (types : List Declaration). elem_at types index) (held_table layouts s t a holds).1.types ∙ ap (elem_at t.types) index_is

  element_is : Some element ≡ elem_at t.types ty.index
  element_is = sym declared ∙ elements_same

  -- one value for all elements
  module _ (v : Val) (count : ℕ) (own : is_filling_own s ty v count ≡ true) where
    filling_cause : (why : ValueFault) → ChecksFilling s t (Some element) v count (Err why) → FillingCauses s t ty v count (allocated_value why)
    filling_cause value_fault.Unrooted checks = record { own = own; some = checks.0; found = checks.1 }
    filling_cause value_fault.TypeMismatch checks = record { own = own; some = checks.0; found = subst (λ (o : Option FieldType). Misfits s t o v) element_is checks.1 }

    abbrev FillingMakes : Limits → Answer → StoreView D → Type 0
    FillingMakes limits' result new = Makes (FillingCauses s t ty v count) (AsksFilling s t ty v count) layouts counter (policy_state t a limits) limits' result new

    pub filling_refused : (why : ValueFault) (answer : Fault) → answer ≡ allocated_value why → ChecksFilling s t (Some element) v count (Err why) → FillingMakes limits (Err answer) s
    filling_refused why answer e checks =
        makes_no_value T (FillingCauses s t ty v count) (AsksFilling s t ty v count) layouts counter (policy_state t a limits) limits s why answer e (filling_cause why checks) refuses

    module _ (limits' : Limits) (new : StoreView D) (answer : Result GcRootIndex Fault) (given : RawValue) (same : given ≡ raw_of v) (checks : ChecksFilling s t (Some element) v count (Ok tt))
        (makes : (o : Object D) → IsFilled s t index count given o → MakesAsked layouts counter o (policy_state t a limits) limits' answer new) where
      abbrev filled : Object D
      filled = array ty.index (replicate count (stored (element_of t.types ty.index) checks.0))

      asked : AsksFilling s t ty v count filled
      asked = record {
        own = own;
        value = checks.0;
        goes = λ some. subst (λ (o : Option FieldType). Goes s t o v checks.0) element_is (checks.1 some);
        object_is = refl;
      }

      is_filled : IsFilled s t index count given filled
      is_filled = (
        checks.0,
        (
          λ some. subst (λ (r : RawValue). RawStands s t r checks.0) (sym same) (checks.1 some).stands,
          ap (λ (n : ℕ). array n (replicate count (stored (element_of t.types n) checks.0))) (sym index_is),
        ),
      )

      pub filling_makes : (result : Answer) → handle_answer result ≡ answer → FillingMakes limits' result new
      filling_makes result same_answer =
          makes_handed (FillingCauses s t ty v count) (AsksFilling s t ty v count) layouts counter s new t a limits limits' holds filled asked result answer same_answer (makes filled is_filled)

      pub filling_kind : IfOk answer (IsScopedOfKind D layouts new kinds.ArrayRef)
      filling_kind = asked_kind layouts counter s new t a limits limits' holds filled kinds.ArrayRef refl answer (makes filled is_filled)

  -- a value for each
  module _ (vs : List Val) (own : are_given_own s ty vs ≡ true) where
    types_same : types_of s.types (value_types.Elements index) ≡ element_types t.types ty.index
    types_same i n = elements_same i

    abbrev ChecksEach : Result (Unit {0}) ValueFault → Type 0
    ChecksEach r = ChecksValues s t (types_of s.types (value_types.Elements index)) vs r

    elements_cause : (why : ValueFault) → ChecksEach (Err why) → ElementsCauses s t ty vs (allocated_value why)
    elements_cause value_fault.Unrooted checks =
        record { own = own; count = tt; found = subst (λ (types : ℕ → Option FieldType). ChecksValues s t types vs (Err value_fault.Unrooted)) types_same checks }
    elements_cause value_fault.TypeMismatch checks =
        record { own = own; count = tt; found = subst (λ (types : ℕ → Option FieldType). ChecksValues s t types vs (Err value_fault.TypeMismatch)) types_same checks }

    abbrev ElementsMake : Limits → Answer → StoreView D → Type 0
    ElementsMake limits' result new = Makes (ElementsCauses s t ty vs) (AsksElements s t ty vs) layouts counter (policy_state t a limits) limits' result new

    pub elements_refused : (why : ValueFault) (answer : Fault) → answer ≡ allocated_value why → ChecksEach (Err why) → ElementsMake limits (Err answer) s
    elements_refused why answer e checks =
        makes_no_value T (ElementsCauses s t ty vs) (AsksElements s t ty vs) layouts counter (policy_state t a limits) limits s why answer e (elements_cause why checks) refuses

    module _ (limits' : Limits) (new : StoreView D) (answer : Result GcRootIndex Fault) (checks : ChecksEach (Ok tt))
        (makes : (o : Object D) → IsArrayOf s t index vs o → MakesAsked layouts counter o (policy_state t a limits) limits' answer new) where
      abbrev listed : Object D
      listed = array ty.index (map (stored (element_of t.types ty.index)) checks.0)

      listed_asked : AsksElements s t ty vs listed
      listed_asked = record {
        own = own;
        values = checks.0;
        go = subst (λ (types : ℕ → Option FieldType). AllGo s t types vs checks.0) types_same checks.1;
        object_is = refl;
      }

      is_listed : IsArrayOf s t index vs listed
      is_listed = (
        checks.0,
        (all_stand s t (types_of s.types (value_types.Elements index)) vs checks.0 checks.1, ap (λ (n : ℕ). array n (map (stored (element_of t.types n)) checks.0)) (sym index_is)),
      )

      pub elements_make : (result : Answer) → handle_answer result ≡ answer → ElementsMake limits' result new
      elements_make result same_answer =
          makes_handed (ElementsCauses s t ty vs) (AsksElements s t ty vs) layouts counter s new t a limits limits' holds listed listed_asked result answer same_answer (makes listed is_listed)

      pub elements_kind : IfOk answer (IsScopedOfKind D layouts new kinds.ArrayRef)
      elements_kind = asked_kind layouts counter s new t a limits limits' holds listed kinds.ArrayRef refl answer (makes listed is_listed)

  -- bytes
  module _ (own : is_type_of s ty ≡ true) (bytes : List ℕ) where
    abbrev BytesMake : Limits → Answer → StoreView D → Type 0
    BytesMake limits' result new = Makes (BytesCauses s t ty) (AsksBytes s t ty bytes) layouts counter (policy_state t a limits) limits' result new

    other_elements : ¬ (element.element_type ≡ storage.I8) → ¬ OfBytes t ty
    other_elements other of_bytes =
        let both : Some element ≡ Some of_bytes.0 = element_is ∙ of_bytes.1.0 in
        let same : element ≡ of_bytes.0 = grind (arith, both) in
        other (ap (λ (f : FieldType). f.element_type) same ∙ of_bytes.1.1)

    pub bytes_refused : ¬ (element.element_type ≡ storage.I8) → BytesMake limits (Err fault.NotI8Array) s
    bytes_refused other = ((own, other_elements other), refuses)

    module _ (of_bytes : element.element_type ≡ storage.I8) (limits' : Limits) (new : StoreView D) (answer : Result GcRootIndex Fault)
        (makes : MakesAsked layouts counter (array index (map byte_value bytes)) (policy_state t a limits) limits' answer new) where
      bytes_asked : AsksBytes s t ty bytes (array index (map byte_value bytes))
      bytes_asked = record { own = own; of_bytes = (element, (sym element_is, of_bytes)); object_is = ap (λ (n : ℕ). array n (map byte_value bytes)) index_is }

      pub bytes_make : (result : Answer) → handle_answer result ≡ answer → BytesMake limits' result new
      bytes_make result same_answer =
          makes_handed (BytesCauses s t ty) (AsksBytes s t ty bytes) layouts counter s new t a limits limits' holds (array index (map byte_value bytes)) bytes_asked result answer same_answer makes

      pub bytes_kind : IfOk answer (IsScopedOfKind D layouts new kinds.ArrayRef)
      bytes_kind = asked_kind layouts counter s new t a limits limits' holds (array index (map byte_value bytes)) kinds.ArrayRef refl answer makes
