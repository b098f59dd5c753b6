-- Making objects: what is asked of the store, and what its answers are for the call.
use Rattle.std.proofs.Common.{inl, ◌≡◌, ℕ, List, map, length, Option, Some, None, Result, Ok, Err, IfOk, sym, ap, ◌∙◌, refl, subst, arith}
use Rattle.std.specs.List.{slice_get}
use Rattle.std.specs.Prelude.{option_map}
use Rattle.std.specs.Option.{option_and_then}
use Rattle.std.proofs.lemmas.List.{length-map}
use Rattle.std.proofs.lemmas.Option.{none-some}
use Rattle.gc_types.specs.declared.kind.Layouts.{Layouts}
use Rattle.gc_types.specs.declared.kind.VMGcKind.{VMGcKind}
use Rattle.gc_types.specs.declared.kind.TypeKind.TheVariants as type_kinds
use Rattle.gc_types.specs.declared.value.FieldType.{FieldType}
use Rattle.gc_types.specs.Declarations.{Declaration, Shape, struct_of, array_of, exn_of, func_of, shape_kind, shape_fields, shape_struct_fields, fields_at, struct_fields_at, elem_at, kind_at, declaration_fields, declaration_struct_fields}
use Rattle.gc_model.specs.Values.{at, Value, Object}
use Rattle.gc_model.specs.Allocation.{Limits}
use Rattle.gc_model.specs.Table.{Table, make, with_pages}
use Rattle.gc_model.specs.Stores.{StoreView}
use Rattle.gc_model.proofs.Lists.{slice_get-push_new}
use Rattle.gc_model.proofs.StoredValues.{mapped_from}
use Rattle.gc_model.specs.Accounts.{Account, HoldsAccount, with_held}
use Rattle.gc_model.specs.Policy.{PolicyState, policy_state, not_begun}
use Rattle.gc_values.specs.declared.root.GcRootIndex.{GcRootIndex}
use Rattle.gc_values.specs.declared.root.RawValue.{RawValue}
use Rattle.gc_rooted.specs.declared.rooted.Rooted.{Rooted}
use Rattle.gc_values.specs.declared.faults.PlaceFault.TheVariants as place
use Rattle.gc_store.specs.Places.{Places, PlacesObject, RefusesPlace}
use Rattle.gc_store.specs.Requests.{CanPlaceStruct, CanPlaceElements}
use Rattle.gc_store.specs.Roots.{NamesScoped}
use Rattle.gc_store.specs.Values.{AllStand, RawStands, CanStore}
use Rattle.gc_store.specs.Kinds.{object_kind, TakesKind, IsScopedOfKind}
use Rattle.gc_objects.specs.declared.faults.AllocFault.TheVariants as fault
use Rattle.gc_objects.specs.declared.faults.ValueFault.{ValueFault}
use Rattle.gc_objects.specs.declared.faults.ValueFault.TheVariants as value_fault
use Rattle.gc_objects.specs.declared.val.Val.{Val}
use Rattle.gc_objects.specs.Faults.{allocated_value}
use Rattle.gc_objects.specs.Given.{raw_of, field_types, element_types, CanStoreAs, AllStorable, AllGo}
use Rattle.gc_objects.specs.Makes.{Fault, handle_answer, MakesAsked, Makes, MakesObject}
use Rattle.gc_objects.proofs.Pushed.{are_before, names_made}
use Rattle.gc_objects.proofs.Pushing.{held_table}

-- the store wasn't asked, for want of memory
pub wants_before : {D : Type 0} (layouts : Layouts) (counter : Option ℕ) (s : StoreView D) (t : Table D) (a : Account) (limits : Limits) (o : Object D) → HoldsAccount layouts s t a → Places layouts counter o (policy_state t a limits) limits (Err place.Memory) s
wants_before layouts counter s t a limits o holds = record {
  after = policy_state t a limits;
  prepared = not_begun;
  begun = inl refl;
  pages = inl refl;
  holds = holds;
  limits = refl;
}

-- a test refused the object
pub refused_before : {D : Type 0} (layouts : Layouts) (s : StoreView D) (t : Table D) (a : Account) (limits : Limits) → HoldsAccount layouts s t a → RefusesPlace layouts (policy_state t a limits) limits s
refused_before layouts s t a limits holds = record { holds = holds; limits = refl }

-- a value refused it
module _ {D : Type 0} (T : Type 0) (causes : Fault → Type 0) (asks : Object D → Type 0) (layouts : Layouts) (counter : Option ℕ) (p : PolicyState D) (limits' : Limits) (new : StoreView D) where
  refused_by : (why : ValueFault) → causes (allocated_value why) → RefusesPlace layouts p limits' new → Makes {T = T} causes asks layouts counter p limits' (Err (allocated_value why)) new
  refused_by value_fault.Unrooted cause refuses = (cause, refuses)
  refused_by value_fault.TypeMismatch cause refuses = (cause, refuses)

  pub makes_no_value : (why : ValueFault) (answer : Fault) → answer ≡ allocated_value why → causes (allocated_value why) → RefusesPlace layouts p limits' new → Makes {T = T} causes asks layouts counter p limits' (Err answer) new
  makes_no_value why answer e cause refuses = subst (λ (f : Fault). Makes {T = T} causes asks layouts counter p limits' (Err f) new) (sym e) (refused_by why cause refuses)

module _ {D : Type 0} (layouts : Layouts) (counter : Option ℕ) (s new : StoreView D) (t : Table D) (a : Account) (limits limits' : Limits) (holds : HoldsAccount layouts s t a) (o : Object D) where
  -- the root of an object that was made stands
  stands : (root : GcRootIndex) (places : PlacesObject layouts counter o (policy_state t a limits) limits' root new) → NamesScoped new (make o places.after.table) root (at (length t.objects))
  stands root places =
      subst (λ (u : Table D). NamesScoped new u root (at (length t.objects))) (sym places.allocates.made)
      (subst (λ (h : GcRootIndex). NamesScoped new (make o (with_pages places.allocates.pages t)) h (at (length t.objects))) (sym places.handle_is)
      (names_made t (are_before layouts s t (held_table layouts s t a holds)) new o places.allocates.pages))

  -- and is of its kind
  pub asked_kind : (kind : VMGcKind) → TakesKind kind (object_kind o) → (answer : Result GcRootIndex Fault) → MakesAsked layouts counter o (policy_state t a limits) limits' answer new → IfOk answer (IsScopedOfKind D layouts new kind)
  asked_kind kind takes (Ok root) places =
      let u : Table D = make o places.after.table in
      record {
        table = u;
        holds = held_table layouts new u (with_held layouts (length t.objects) places.word places.after.account) places.holds;
        root = at (length t.objects);
        named = stands root places;
        of_kind = (o, (ap (λ (x : Table D). slice_get x.objects (length t.objects)) places.allocates.made ∙ slice_get-push_new t.objects o, takes));
      }
  asked_kind kind takes (Err why) places = tt

module _ {D T : Type 0} (causes : Fault → Type 0) (asks : Object D → Type 0) (layouts : Layouts) (counter : Option ℕ) (s new : StoreView D) (t : Table D) (a : Account) (limits limits' : Limits) where
  abbrev MakesBy : Result (Rooted T) Fault → Type 0
  MakesBy result = Makes causes asks layouts counter (policy_state t a limits) limits' result new

  module _ (holds : HoldsAccount layouts s t a) (o : Object D) (asked : asks o) where
    pub made : (handle : Rooted T) → PlacesObject layouts counter o (policy_state t a limits) limits' handle.index new → MakesObject asks layouts counter (policy_state t a limits) limits' handle.index new
    made handle places = record {
      object = o;
      asked = asked;
      placed = places;
      named =
          inl (stands layouts counter s new t a limits limits' holds o handle.index places);
    }

    -- the store was asked for it
    makes_asked : (result : Result (Rooted T) Fault) → MakesAsked layouts counter o (policy_state t a limits) limits' (handle_answer result) new → MakesBy result
    makes_asked (Ok handle) asks_store = made handle asks_store
    makes_asked (Err fault.WrongStore) asks_store = absurd asks_store
    makes_asked (Err fault.FieldCount) asks_store = absurd asks_store
    makes_asked (Err fault.NotI8Array) asks_store = absurd asks_store
    makes_asked (Err fault.Unrooted) asks_store = absurd asks_store
    makes_asked (Err fault.TypeMismatch) asks_store = absurd asks_store
    makes_asked (Err fault.FuncTableFull) asks_store = (o, (asked, asks_store))
    makes_asked (Err fault.ContTableFull) asks_store = (o, (asked, asks_store))
    makes_asked (Err fault.TooLarge) asks_store = (o, (asked, asks_store))
    makes_asked (Err fault.RootsFull) asks_store = (o, (asked, asks_store))
    makes_asked (Err (fault.HeapOutOfMemory f)) asks_store = (o, (asked, asks_store))
    makes_asked (Err fault.Memory) asks_store = (o, (asked, asks_store))

    -- and answered by its root, of which there is a typed handle now
    pub makes_handed : (result : Result (Rooted T) Fault) (answer : Result GcRootIndex Fault) → handle_answer result ≡ answer → MakesAsked layouts counter o (policy_state t a limits) limits' answer new → MakesBy result
    makes_handed result answer same asks_store =
        makes_asked result (subst (λ (q : Result GcRootIndex Fault). MakesAsked layouts counter o (policy_state t a limits) limits' q new) (sym same) asks_store)

-- the values that all go stand for those of the table
pub all_stand : {D : Type 0} (s : StoreView D) (t : Table D) (types : ℕ → Option FieldType) (vs : List Val) (xs : List Value) → AllGo s t types vs xs → AllStand s t (map raw_of vs) xs
all_stand s t types vs xs go = record {
  same_count = length-map vs raw_of ∙ go.same_count;
  each = λ i r x e f.
      let from = mapped_from raw_of vs i r e in
      subst (λ (q : RawValue). RawStands s t q x) from.is ((go.each i from.element x from.there f).stands);
}

-- a struct type has fields
pub record HasFields (types : List Declaration) (ty : ℕ) : Type 0 where
  pub fields : List FieldType
  pub listed : fields_at types ty ≡ Some fields
  pub struct_listed : struct_fields_at types ty ≡ Some fields

fields_by_shape : (d : Declaration) (shape : Shape) → d.shape ≡ shape → shape_kind shape ≡ type_kinds.Struct → (fields : List FieldType) × ((declaration_fields (Some d) ≡ Some fields) × (declaration_struct_fields (Some d) ≡ Some fields))
fields_by_shape d (struct_of fields) same is = (fields, (ap shape_fields same, ap shape_struct_fields same))
fields_by_shape d (array_of element) same is = absurd (cc is)
fields_by_shape d (exn_of params) same is = absurd (cc is)
fields_by_shape d (func_of params results) same is = absurd (cc is)

fields_by_kind : (d : Option Declaration) → option_map (λ (x : Declaration). shape_kind x.shape) d ≡ Some type_kinds.Struct → (fields : List FieldType) × ((declaration_fields d ≡ Some fields) × (declaration_struct_fields d ≡ Some fields))
fields_by_kind None is = absurd (none-some _ is)
fields_by_kind (Some d) is = let kind : shape_kind d.shape ≡ type_kinds.Struct = grind (arith, is) in fields_by_shape d d.shape refl kind

pub has_fields : (types : List Declaration) (ty : ℕ) → kind_at types ty ≡ Some type_kinds.Struct → HasFields types ty
has_fields types ty is = let found = fields_by_kind (slice_get types ty) is in record { fields = found.0; listed = found.1.0; struct_listed = found.1.1 }

-- values that may be stored may be those of a struct
module _ (D : Type 0) (layouts : Layouts) (s : StoreView D) (ty : ℕ) (vs : List Val) where
  pub can_make_struct : (has : HasFields s.types ty) → length vs ≡ length has.fields → AllStorable D layouts s (field_types s.types ty) vs → CanPlaceStruct D layouts s ty (map raw_of vs)
  can_make_struct has count storable = record {
    fields = has.fields;
    declared = has.struct_listed;
    same_count = length-map vs raw_of ∙ count;
    each = λ i field r e f.
        let from = mapped_from raw_of vs i r f in
        let field_is : field_types s.types ty i ≡ Some field = ap (λ (o : Option (List FieldType)). option_and_then (λ (fs : List FieldType). slice_get fs i) o) has.listed ∙ e in
        subst (CanStore D layouts s field.element_type) from.is (subst (λ (o : Option FieldType). CanStoreAs D layouts s o from.element) field_is (storable i from.element from.there));
  }

  pub can_make_elements : (count : ℕ) (element : FieldType) → elem_at s.types ty ≡ Some element → length vs ≡ count → AllStorable D layouts s (element_types s.types ty) vs → CanPlaceElements D layouts s ty count (map raw_of vs)
  can_make_elements count element declared counted storable = record {
    element = element;
    declared = declared;
    same_count = length-map vs raw_of ∙ counted;
    each = λ i r f.
        let from = mapped_from raw_of vs i r f in
        subst (CanStore D layouts s element.element_type) from.is (subst (λ (o : Option FieldType). CanStoreAs D layouts s o from.element) declared (storable i from.element from.there));
  }
