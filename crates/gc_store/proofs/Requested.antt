-- What an object is that is requested, and that what is given fits its slots and stands for its values.
use Rattle.std.proofs.Common.{◌≡◌, ℕ, zero, suc, ◌+◌, ◌-◌, ◌*◌, ◌^◌, ◌<◌, ◌≤◌, true, false, Bor, List, [], ◌∷◌, length, map, replicate, Option, Some, None, refl, sym, ap, ◌∙◌, subst, arith, leb-false, mul-le-mul_left}
use Rattle.std.specs.List.{slice_get}
use Rattle.std.specs.Prelude.{option_map, unwrap_or}
use Rattle.std.proofs.lemmas.List.{length-map, length-replicate}
use Rattle.std.proofs.lemmas.Option.{none-some, same_Some, slice_get_within}
use Rattle.gc_types.specs.declared.value.FieldType.{FieldType}
use Rattle.gc_types.specs.declared.value.StorageType.{StorageType}
use Rattle.gc_types.specs.declared.value.Tag.{Tag}
use Rattle.gc_types.specs.declared.value.ValType.{ValType}
use Rattle.gc_types.specs.declared.value.StorageType.TheVariants as storage
use Rattle.gc_types.specs.declared.kind.Layouts.{Layouts}
use Rattle.gc_types.specs.declared.kind.Layouts.TheVariants.{Null, Counting, Copying}
use Rattle.gc_types.specs.Declarations.{Declaration, Shape, struct_of, array_of, exn_of, constant_field, struct_fields_at, elem_at, shape_at}
use Rattle.gc_types.specs.declared.layout.GcArrayLayout.{GcArrayLayout}
use Rattle.gc_types.specs.Layouts.{array_layout, storage_width, struct_base, exception_base, fields_end}
use Rattle.gc_view.specs.Heaps.{HeapObject}
use Rattle.gc_view.proofs.Layouts.{storage_width_positive}
use Rattle.gc_view.specs.Sizes.{stored_size, too_large}
use Rattle.gc_heap.specs.Heap.{array_size}
use Rattle.gc_view.specs.Slots.{StorageSlot, field_slots, element_slots, elements_from, shape_slots, shape_size}
use Rattle.gc_view.proofs.SlotLemmas.{length-field_slots, length-element_slots}
use Rattle.gc_store.specs.Roots.{store_roots}
use Rattle.gc_values.specs.Words.{HandleRoots}
use Rattle.gc_model.specs.Values.{Value, numeric, i32, Object, struct, array, exception}
use Rattle.gc_model.specs.Reach.{IsHost, object_values}
use Rattle.gc_model.specs.Sizes.{fields_size, elements_size, exception_size, exn_fields_at, object_size}
use Rattle.gc_model.specs.SideValues.{SideValues, side_values, with_side_values}
use Rattle.gc_model.specs.Standing.{Stands, ValuesLie}
use Rattle.gc_model.specs.Stored.{stored, stored_in, byte_value}
use Rattle.gc_model.specs.Fits.{fits}
use Rattle.gc_model.specs.Table.{Table}
use Rattle.gc_model.specs.Stores.{StoreView}
use Rattle.gc_model.specs.Forms.{Names, InternedIds, storage_form}
use Rattle.gc_model.specs.Holds.{Placing, Holds}
use Rattle.gc_model.proofs.Interned.{side-stored, side-stored_in, side-mapped, side-bytes, side-replicate}
use Rattle.gc_model.proofs.Lists.{slice_get-same_length}
use Rattle.gc_model.proofs.MadeObjects.{struct_stands, array_stands, exception_stands}
use Rattle.gc_model.proofs.ObjectShapes.{exception_shape, type_of_slot, FieldOfSlot, field_of_slot}
use Rattle.gc_model.proofs.StoredValues.{kept_value, length-stored_in, mapped_from, typed-struct, typed-exception, typed-array, typed-filled, typed-bytes}
use Rattle.gc_model.proofs.Typing.{IsTypedObject}
use Rattle.gc_values.specs.declared.request.Place.{Place}
use Rattle.gc_values.specs.declared.request.Place.TheVariants as place
use Rattle.gc_values.specs.declared.request.Contents.{Contents}
use Rattle.gc_values.specs.declared.request.Contents.TheVariants as contents
use Rattle.gc_values.specs.declared.root.RawValue.{RawValue}
use Rattle.gc_values.specs.Filling.{asked_type, BytesFit, ContentsFit, ContentsStand, EachFits, EachStands, SameFits, SameStands}
use Rattle.gc_values.specs.HeldSlots.{HasHeapShape}
use Rattle.gc_values.specs.Interning.{request_values}
use Rattle.gc_owner.specs.declared.allocate.Description.{Description}
use Rattle.gc_owner.specs.declared.allocate.Description.TheVariants as of
use Rattle.gc_values.specs.Making.{IsDescribedBy, IsOfTypes, IsSizeOf}
use Rattle.gc_values.specs.Kept.{StoredStands}
use Rattle.gc_store.specs.Requests.{CanPlaceIn, CanPlaceFields, CanPlaceStruct, CanPlaceException, IsObjectOf, struct_fields_of, exn_fields_of, element_of, stored_as}
use Rattle.gc_values.specs.Tagging.{BeginsWithTag}
use Rattle.gc_store.specs.Values.{AllStand, CanStore, RawStands}
use Rattle.gc_values.specs.RawValues.{raw_side_values}
use Rattle.gc_values.proofs.GivenValues.{HaveAllIds, have_one}
use Rattle.gc_store.proofs.StandingValues.{all-stand, raw-stands}
use Rattle.gc_store.proofs.NewObjects.{IsNew, new_struct_is, new_exn_is, new_array_is, struct_size_of, exn_size_of, array_size_of}
use Rattle.gc_store.proofs.KeptAgain.{IsRooted, rooted_kept}
use Rattle.gc_store.proofs.WritingAt.{is_rooted, storable_form, value_of}

-- Slots keep, of any value that may be stored, what stands for it.
abbrev pub StandsFor : {D : Type 0} → Layouts → StoreView D → Table D → InternedIds → Names → HandleRoots → Type 0
StandsFor {D} layouts s t ids names roots =
    (ty : StorageType) (r : RawValue) (v : Value) → CanStore D layouts s ty r → RawStands s t r v → StoredStands ids names roots ty r (stored ty v)

-- an exception has its tag
abbrev pub HasAskedFront : Place → List ℕ → Type 0
HasAskedFront (place.Struct ty) bytes = Unit {0}
HasAskedFront (place.Exn ty tag) bytes = BeginsWithTag tag bytes
HasAskedFront (place.Array ty count) bytes = Unit {0}

-- What a requested object of the table is: of the size and the shape of what is made, with values that what is given stands for.
pub record AsksFor {D : Type 0} (layouts : Layouts) (s : StoreView D) (t : Table D) (request : Place) (given : Contents) (shape : Shape) (count : ℕ) (o : Object D) : Type 0 where
  pub not_host : ¬ IsHost (Some o)
  pub of_size : (k : Layouts) → object_size k t.types o ≡ shape_size k shape count
  pub typed : IsTypedObject t.types t.objects o
  pub contents : (ids : InternedIds) (names : Names) (roots : HandleRoots) → StandsFor layouts s t ids names roots → ContentsStand ids given names roots (shape_slots layouts shape count) (object_values o)
  pub stands : (names : Names) (h : HeapObject) → h.ty ≡ asked_type request → HasHeapShape h shape count → HasAskedFront request h.bytes → struct_base layouts + length h.bytes ≡ stored_size layouts (shape_size layouts shape count)
      → ValuesLie names (struct_base layouts) (shape_slots layouts shape count) (object_values o) h.bytes → Stands layouts t.types names o h

-- What is given fits what is made for a request, and stands for what is asked for.
pub record Asks {D : Type 0} (layouts : Layouts) (s : StoreView D) (t : Table D) (request : Place) (given : Contents) (new : IsNew D layouts s.types request) : Type 0 where
  pub fit : (ids : InternedIds) (roots : HandleRoots) → HaveAllIds ids (raw_side_values (request_values request given)) → ((r : RawValue) → IsRooted (store_roots s) r → IsRooted roots r) → ContentsFit ids request given roots (shape_slots layouts new.shape new.count)
  pub some : (o : Object D) × IsObjectOf s t request given o
  pub asks_for : (t : Table D) (p : Placing) (o : Object D) → Holds layouts s t p → IsObjectOf s t request given o → AsksFor layouts s t request given new.shape new.count o

-- The size of an object of a request that may be placed.
pub record Sized {D : Type 0} (layouts : Layouts) (s : StoreView D) (request : Place) (given : Contents) : Type 0 where
  pub size : ℕ
  pub is_size : IsSizeOf layouts s.types request size
  pub of_object : (t : Table D) (p : Placing) (o : Object D) → Holds layouts s t p → IsObjectOf s t request given o → object_size layouts t.types o ≡ size

-- the length of a requested array is one that code has
abbrev pub IsCounted : Place → Type 0
IsCounted (place.Struct ty) = Unit {0}
IsCounted (place.Exn ty tag) = Unit {0}
IsCounted (place.Array ty count) = count < 2 ^ 32

-- what is made for a request that may be placed
abbrev pub new_of : (D : Type 0) (layouts : Layouts) (s : StoreView D) (request : Place) (given : Contents) → IsCounted request → CanPlaceIn D layouts s request given → IsNew D layouts s.types request
new_of D layouts s (place.Struct ty) (contents.Each values) counted can = new_struct_is D layouts s.types ty can.fields can.declared
new_of D layouts s (place.Array ty count) (contents.Each values) counted can = new_array_is D layouts s.types ty count can.element counted can.declared
new_of D layouts s (place.Array ty count) (contents.Same value) counted can = new_array_is D layouts s.types ty count can.element counted can.declared
new_of D layouts s (place.Array ty count) (contents.Bytes bytes) counted can = new_array_is D layouts s.types ty count can.element counted can.declared
new_of D layouts s (place.Struct ty) (contents.Same value) counted can = absurd can
new_of D layouts s (place.Struct ty) (contents.Bytes bytes) counted can = absurd can
new_of D layouts s (place.Exn ty tag) (contents.Each values) counted can =
    let params = exception_shape s.types ty can.fields can.declared in
    new_exn_is D layouts s.types ty tag params.0 params.1.0
new_of D layouts s (place.Exn ty tag) (contents.Same value) counted can = absurd can
new_of D layouts s (place.Exn ty tag) (contents.Bytes bytes) counted can = absurd can

-- what a request is described by is of a declared type
pub of_types : (layouts : Layouts) (types : List Declaration) (request : Place) (d : Description) → IsDescribedBy layouts types request d → IsOfTypes d
of_types layouts types request (of.Object ty layout) is = tt
of_types layouts types request (of.Array ty count layout) is = tt
of_types layouts types (place.Struct ty) (of.External id) is = is
of_types layouts types (place.Exn ty tag) (of.External id) is = is
of_types layouts types (place.Array ty count) (of.External id) is = is

below_limit : (layouts : Layouts) (size : ℕ) → too_large layouts size ≡ false → size < 2 ^ 32
below_limit Null size small = omega (arith, leb-false 67108864 size small)
below_limit Counting size small = omega (arith, leb-false (2 ^ 32 - 16) size small)
below_limit Copying size small = omega (arith, leb-false (2 ^ 32 - 15) size small)

-- what is not too large has few elements
pub few_elements : (layouts : Layouts) (types : List Declaration) (request : Place) (size : ℕ) → IsSizeOf layouts types request size → too_large layouts size ≡ false → IsCounted request
few_elements layouts types (place.Struct ty) size is small = tt
few_elements layouts types (place.Exn ty tag) size is small = tt
few_elements layouts types (place.Array ty count) size is small = by (elem_at types ty) is.1.0
  where
    by : (e : Option FieldType) → option_map (array_layout layouts) e ≡ Some is.0 → count < 2 ^ 32
    by None none = absurd (none-some is.0 none)
    by (Some element) laid =
        let same : array_layout layouts element ≡ is.0 = same_Some (array_layout layouts element) is.0 laid in
        let size_is : size ≡ array_size (array_layout layouts element) count = is.1.1 ∙ ap (λ (l : GcArrayLayout). array_size l count) (sym same) in
        let wide : count * 1 ≤ count * storage_width element.element_type = mul-le-mul_left count (storage_width_positive element.element_type) in
        omega (arith, below_limit layouts size small, size_is, wide)

-- a list of values, one for each that is given
values_with : {D : Type 0} (s : StoreView D) (t : Table D) (raws : List RawValue) → ((i : ℕ) (r : RawValue) → slice_get raws i ≡ Some r → (v : Value) × RawStands s t r v) → (vs : List Value) × AllStand s t raws vs
values_with s t [] each = ([], record { same_count = refl; each = λ i r v e. absurd (none-some r e) })
values_with {D} s t (x ∷ raws) each =
    let first = each 0 x refl in
    let rest = values_with s t raws (λ i r e. each (suc i) r e) in
    (first.0 ∷ rest.0, record { same_count = ap suc rest.1.same_count; each = at first rest.1 })
  where
    at : (first : (v : Value) × RawStands s t x v) → {vs : List Value} → AllStand s t raws vs → (i : ℕ) (r : RawValue) (v : Value) → slice_get (x ∷ raws) i ≡ Some r → slice_get (first.0 ∷ vs) i ≡ Some v → RawStands s t r v
    at first {vs} rest zero r v e f = subst (λ (v : Value). RawStands s t r v) (same_Some first.0 v f) (subst (λ (r : RawValue). RawStands s t r first.0) (same_Some x r e) first.1)
    at first {vs} rest (suc i) r v e f = rest.each i r v e f

-- one value for all elements: where there are some, it is looked at
have_same : (ids : InternedIds) (ty count : ℕ) (value : Bor RawValue) → HaveAllIds ids (raw_side_values (request_values (place.Array ty count) (contents.Same value))) → 0 < count → HaveAllIds ids (raw_side_values (value.now ∷ []))
have_same ids ty zero value have some = absurd (omega (arith, some))
have_same ids ty (suc n) value have some = have

same_side_values : (ty count : ℕ) (given : Bor RawValue) (v : Value) → (0 < count → raw_side_values (given.now ∷ []) ≡ side_values (v ∷ [])) → (known : SideValues)
    → with_side_values (raw_side_values (request_values (place.Array ty count) (contents.Same given))) known ≡ with_side_values (side_values (replicate count v)) known
same_side_values ty zero given v is known = refl
same_side_values ty (suc n) given v is known = ap (λ (given : SideValues). with_side_values given known) (is (omega arith)) ∙ sym (side-replicate n v known)

module _ (D : Type 0) (layouts : Layouts) (s : StoreView D) (t0 : Table D) (place0 : Placing) (holds0 : Holds layouts s t0 place0) where
  -- Values for fields, one for each

  module _ (found : Option (List FieldType)) (raws : List RawValue) (can : CanPlaceFields D layouts s found raws) where
    abbrev fields : List FieldType
    fields = can.fields

    field_of : (i : ℕ) (r : RawValue) → slice_get raws i ≡ Some r → (field : FieldType) × (slice_get fields i ≡ Some field)
    field_of i r e = slice_get-same_length raws fields i r can.same_count e

    fields_some : (vs : List Value) × AllStand s t0 raws vs
    fields_some = values_with s t0 raws (λ i r e. let f = field_of i r e in value_of D layouts s t0 place0 holds0 r (can.each i f.0 r f.1 e).live)

    -- in the slots of a base
    module _ (base : ℕ) where
      field_type : (i : ℕ) (slot : StorageSlot) → slice_get (field_slots base fields) i ≡ Some slot → FieldOfSlot fields i slot
      field_type i slot at = field_of_slot base fields i slot at

      fields_fit : (ids : InternedIds) (roots : HandleRoots) → HaveAllIds ids (raw_side_values raws) → ((r : RawValue) → IsRooted (store_roots s) r → IsRooted roots r) → EachFits ids raws roots (field_slots base fields)
      fields_fit ids roots have keeps = record {
        same_count = can.same_count ∙ sym (length-field_slots base fields);
        forms = λ i slot r at r_at.
            let f = field_type i slot at in
            storable_form D layouts s t0 place0 holds0 f.field.element_type r (can.each i f.field r f.field_is r_at) ∙ ap storage_form f.type_is;
        kept = λ i r r_at. let f = field_of i r r_at in rooted_kept ids roots r (have_one ids raws i r r_at have) (keeps r (is_rooted D layouts s r (can.each i f.0 r f.1 r_at).live));
      }

      fields_contents : (t : Table D) (vs : List Value) (all : AllStand s t raws vs) (ids : InternedIds) (names : Names) (roots : HandleRoots) → StandsFor layouts s t ids names roots → EachStands ids raws names roots (field_slots base fields) (stored_in fields vs)
      fields_contents t vs all ids names roots stands = record {
        same_count = can.same_count ∙ sym (length-stored_in fields vs (sym all.same_count ∙ can.same_count));
        each = λ i slot r w at r_at w_at.
            let f = field_type i slot at in
            let k = kept_value fields vs i w w_at in
            let same : k.field ≡ f.field = same_Some k.field f.field (sym k.field_is ∙ f.field_is) in
            let ty_is : k.field.element_type ≡ slot.storage = ap (λ (x : FieldType). x.element_type) same ∙ f.type_is in
            subst (λ (st : StorageType). StoredStands ids names roots st r w) ty_is
            (subst (λ (x : Value). StoredStands ids names roots k.field.element_type r x) (sym k.kept_is)
            (stands k.field.element_type r k.value (can.each i k.field r k.field_is r_at) (all.each i r k.value r_at k.value_is)));
      }

    -- the function values and continuations that are given are those of the fields
    fields_side_values : (t : Table D) (vs : List Value) (all : AllStand s t raws vs) (known : SideValues) → with_side_values (raw_side_values raws) known ≡ with_side_values (side_values (stored_in fields vs)) known
    fields_side_values t vs all known =
        ap (λ (given : SideValues). with_side_values given known)
        (all-stand s t raws vs all ∙ sym (side-stored_in fields vs (sym all.same_count ∙ can.same_count)))

    module _ (t : Table D) (p : Placing) (holds : Holds layouts s t p) (vs : List Value) (all : AllStand s t raws vs) where
      fields_match : (i : ℕ) (field : FieldType) (v : Value) → slice_get fields i ≡ Some field → slice_get vs i ≡ Some v → fits t.types t.objects field.element_type v ≡ true
      fields_match i field v at v_at =
          let r = slice_get-same_length vs raws i v (sym all.same_count) v_at in
          (can.each i field r.0 at r.1).fits t v (p, holds) (all.each i r.0 v r.1 v_at)

  -- A struct

  module _ (ty : ℕ) (raws : List RawValue) (can : CanPlaceStruct D layouts s ty raws) (t : Table D) (p : Placing) (holds : Holds layouts s t p) where
    declared_here : struct_fields_at t.types ty ≡ Some can.fields
    declared_here = ap (λ (ts : List Declaration). struct_fields_at ts ty) (sym holds.types) ∙ can.declared

    fields_are : struct_fields_of t.types ty ≡ can.fields
    fields_are = ap (λ (fs : Option (List FieldType)). unwrap_or fs []) declared_here

    struct_for : (vs : List Value) (all : AllStand s t raws vs) (given : Bor (List RawValue)) → given.now ≡ raws → AsksFor layouts s t (place.Struct ty) (contents.Each given) (struct_of can.fields) 0 (struct ty (stored_in can.fields vs))
    struct_for vs all given same = record {
      not_host = λ host. host;
      of_size = λ k. ap (fields_size k) declared_here;
      typed = typed-struct t.types t.objects ty can.fields vs declared_here (fields_match (struct_fields_at s.types ty) raws can t p holds vs all);
      contents = λ ids names roots stands. subst (λ (rs : List RawValue). EachStands ids rs names roots (shape_slots layouts (struct_of can.fields) 0) (stored_in can.fields vs)) (sym same)
          (fields_contents (struct_fields_at s.types ty) raws can (struct_base layouts) t vs all ids names roots stands);
      stands = λ names h same_type kind front size lie. struct_stands layouts t.types names ty (stored_in can.fields vs) h same_type can.fields declared_here kind size lie;
    }

  -- An exception

  module _ (ty : ℕ) (tag : Tag) (raws : List RawValue) (can : CanPlaceException D layouts s ty raws) where
    abbrev exn_params : (params : List ValType) × ((shape_at s.types ty ≡ Some (exn_of params)) × (map constant_field params ≡ can.fields))
    exn_params = exception_shape s.types ty can.fields can.declared

    exn_fit : (ids : InternedIds) (roots : HandleRoots) → HaveAllIds ids (raw_side_values raws) → ((r : RawValue) → IsRooted (store_roots s) r → IsRooted roots r) → EachFits ids raws roots (shape_slots layouts (exn_of exn_params.0) 0)
    exn_fit ids roots have keeps =
        subst (λ (fs : List FieldType). EachFits ids raws roots (field_slots (exception_base layouts) fs)) (sym exn_params.1.1) (fields_fit (exn_fields_at s.types ty) raws can (exception_base layouts) ids roots have keeps)

    module _ (t : Table D) (p : Placing) (holds : Holds layouts s t p) where
      exn_declared : exn_fields_at t.types ty ≡ Some can.fields
      exn_declared = ap (λ (ts : List Declaration). exn_fields_at ts ty) (sym holds.types) ∙ can.declared

      exn_fields_are : exn_fields_of t.types ty ≡ can.fields
      exn_fields_are = ap (λ (fs : Option (List FieldType)). unwrap_or fs []) exn_declared

      exn_size_is : (k : Layouts) → exception_size k (exn_fields_at t.types ty) ≡ shape_size k (exn_of exn_params.0) 0
      exn_size_is k = ap (exception_size k) exn_declared ∙ ap (fields_end (exception_base k)) (sym exn_params.1.1)

      exn_for : (vs : List Value) (all : AllStand s t raws vs) (given : Bor (List RawValue)) → given.now ≡ raws
          → AsksFor layouts s t (place.Exn ty tag) (contents.Each given) (exn_of exn_params.0) 0 (exception ty tag (stored_in can.fields vs))
      exn_for vs all given same = record {
        not_host = λ host. host;
        of_size = exn_size_is;
        typed = typed-exception t.types t.objects ty tag can.fields vs exn_declared (fields_match (exn_fields_at s.types ty) raws can t p holds vs all);
        contents = λ ids names roots stands.
            subst (λ (fs : List FieldType). EachStands ids given.now names roots (field_slots (exception_base layouts) fs) (stored_in can.fields vs)) (sym exn_params.1.1)
            (subst (λ (rs : List RawValue). EachStands ids rs names roots (field_slots (exception_base layouts) can.fields) (stored_in can.fields vs)) (sym same)
            (fields_contents (exn_fields_at s.types ty) raws can (exception_base layouts) t vs all ids names roots stands));
        stands = λ names h same_type kind front size lie.
            exception_stands layouts t.types names ty (stored_in can.fields vs) h same_type exn_params.0 tag (ap (λ (ts : List Declaration). shape_at ts ty) (sym holds.types) ∙ exn_params.1.0) kind front.instance front.index size lie;
      }

  -- An array

  module _ (ty count : ℕ) (element : FieldType) (declared : elem_at s.types ty ≡ Some element) where
    abbrev slots : List StorageSlot
    slots = shape_slots layouts (array_of element) count

    -- the type of each slot
    slot_type : (i : ℕ) (slot : StorageSlot) → slice_get slots i ≡ Some slot → element.element_type ≡ slot.storage
    slot_type i slot at =
        let f = type_of_slot layouts (array_of element) count i slot at in
        ap (λ (x : FieldType). x.element_type) (same_Some element f.field f.field_is) ∙ f.type_is

    slots_count : length slots ≡ count
    slots_count = length-element_slots element.element_type count (elements_from layouts element)

    some_slot : (i : ℕ) (slot : StorageSlot) → slice_get slots i ≡ Some slot → 0 < count
    some_slot i slot at = omega (arith, slice_get_within slots i slot at, slots_count)

    module _ (t : Table D) (p : Placing) (holds : Holds layouts s t p) where
      element_here : elem_at t.types ty ≡ Some element
      element_here = ap (λ (ts : List Declaration). elem_at ts ty) (sym holds.types) ∙ declared

      element_is : element_of t.types ty ≡ element.element_type
      element_is = ap stored_as element_here

      array_size_is : (values : List Value) → length values ≡ count → (k : Layouts) → object_size {D = D} k t.types (array ty values) ≡ shape_size k (array_of element) count
      array_size_is values long k = ap (λ (e : Option FieldType). elements_size k e (length values)) element_here ∙ ap (elements_size k (Some element)) long

      array_stands_as : (values : List Value) → length values ≡ count → (names : Names) (h : HeapObject) → h.ty ≡ ty → HasHeapShape h (array_of element) count → struct_base layouts + length h.bytes ≡ stored_size layouts (shape_size layouts (array_of element) count)
          → ValuesLie names (struct_base layouts) slots values h.bytes → Stands {D = D} layouts t.types names (array ty values) h
      array_stands_as values long names h same_type has size lie =
          array_stands layouts t.types names ty values h same_type element element_here has.0 (sym has.1 ∙ sym long)
          (size ∙ ap (λ n. stored_size layouts (shape_size layouts (array_of element) n)) (sym long))
          (subst (λ (n : ℕ). ValuesLie names (struct_base layouts) (shape_slots layouts (array_of element) n) values h.bytes) (sym long) lie)

    -- with a value for each element
    module _ (raws : List RawValue) (same_count : length raws ≡ count) (each : (i : ℕ) (r : RawValue) → slice_get raws i ≡ Some r → CanStore D layouts s element.element_type r) where
      elements_fit : (ids : InternedIds) (roots : HandleRoots) → HaveAllIds ids (raw_side_values raws) → ((r : RawValue) → IsRooted (store_roots s) r → IsRooted roots r) → EachFits ids raws roots slots
      elements_fit ids roots have keeps = record {
        same_count = same_count ∙ sym slots_count;
        forms = λ i slot r at r_at. storable_form D layouts s t0 place0 holds0 element.element_type r (each i r r_at) ∙ ap storage_form (slot_type i slot at);
        kept = λ i r r_at. rooted_kept ids roots r (have_one ids raws i r r_at have) (keeps r (is_rooted D layouts s r (each i r r_at).live));
      }

      elements_some : (vs : List Value) × AllStand s t0 raws vs
      elements_some = values_with s t0 raws (λ i r e. value_of D layouts s t0 place0 holds0 r (each i r e).live)

      elements_for : (t : Table D) (p : Placing) (holds : Holds layouts s t p) (vs : List Value) (all : AllStand s t raws vs) (given : Bor (List RawValue)) → given.now ≡ raws
          → AsksFor layouts s t (place.Array ty count) (contents.Each given) (array_of element) count (array ty (map (stored element.element_type) vs))
      elements_for t p holds vs all given same =
          let values : List Value = map (stored element.element_type) vs in
          let long : length values ≡ count = length-map vs (stored element.element_type) ∙ sym all.same_count ∙ same_count in
          record {
            not_host = λ host. host;
            of_size = array_size_is t p holds values long;
            typed = typed-array t.types t.objects ty element vs (element_here t p holds) (λ i v v_at.
                let r = slice_get-same_length vs raws i v (sym all.same_count) v_at in
                (each i r.0 r.1).fits t v (p, holds) (all.each i r.0 v r.1 v_at));
            contents = λ ids names roots stands. subst (λ (rs : List RawValue). EachStands ids rs names roots slots values) (sym same) (record {
              same_count = same_count ∙ sym long;
              each = λ i slot r w at r_at w_at.
                  let from = mapped_from (stored element.element_type) vs i w w_at in
                  subst (λ (st : StorageType). StoredStands ids names roots st r w) (slot_type i slot at)
                  (subst (λ (x : Value). StoredStands ids names roots element.element_type r x) from.is (stands element.element_type r from.element (each i r r_at) (all.each i r from.element r_at from.there)));
            });
            stands = λ names h same_type has front size lie. array_stands_as t p holds values long names h same_type has size lie;
          }

    -- with one value for all
    module _ (r : RawValue) (can : 0 < count → CanStore D layouts s element.element_type r) where
      same_fit : (ids : InternedIds) (roots : HandleRoots) → (0 < count → HaveAllIds ids (raw_side_values (r ∷ []))) → ((r : RawValue) → IsRooted (store_roots s) r → IsRooted roots r) → SameFits ids r count roots slots
      same_fit ids roots have keeps = record {
        ty = element.element_type;
        from = elements_from layouts element;
        slots_are = refl;
        form = λ some. storable_form D layouts s t0 place0 holds0 element.element_type r (can some);
        kept = λ some. rooted_kept ids roots r (have some) (keeps r (is_rooted D layouts s r (can some).live));
      }

      same_some : (v : Value) × (0 < count → RawStands s t0 r v)
      same_some = by count refl
        where
          by : (n : ℕ) → count ≡ n → (v : Value) × (0 < count → RawStands s t0 r v)
          by zero none = (numeric i32 0, λ some. absurd (omega (arith, some, none)))
          by (suc n) is = let v = value_of D layouts s t0 place0 holds0 r (can (omega (arith, is))).live in (v.0, λ some. v.1)

      same_for : (t : Table D) (p : Placing) (holds : Holds layouts s t p) (v : Value) (stands_as : 0 < count → RawStands s t r v) (given : Bor RawValue) → given.now ≡ r
          → AsksFor layouts s t (place.Array ty count) (contents.Same given) (array_of element) count (array ty (replicate count (stored element.element_type v)))
      same_for t p holds v stands_as given same =
          let values : List Value = replicate count (stored element.element_type v) in
          let long : length values ≡ count = length-replicate count (stored element.element_type v) in
          record {
            not_host = λ host. host;
            of_size = array_size_is t p holds values long;
            typed = typed-filled t.types t.objects ty element count v (element_here t p holds) (λ some. (can some).fits t v (p, holds) (stands_as some));
            contents = λ ids names roots stands. subst (λ (x : RawValue). SameStands ids x names roots slots values) (sym same) (record {
              kept = stored element.element_type v;
              values_are = ap (λ (n : ℕ). replicate n (stored element.element_type v)) (sym slots_count);
              stands = λ i slot at.
                  let some = some_slot i slot at in
                  subst (λ (st : StorageType). StoredStands ids names roots st r (stored element.element_type v)) (slot_type i slot at) (stands element.element_type r v (can some) (stands_as some));
            });
            stands = λ names h same_type has front size lie. array_stands_as t p holds values long names h same_type has size lie;
          }

    -- with bytes
    module _ (bytes : List ℕ) (of_bytes : element.element_type ≡ storage.I8) (same_count : length bytes ≡ count) where
      bytes_fit : (roots : HandleRoots) → BytesFit bytes roots slots
      bytes_fit roots = record {
        from = elements_from layouts element;
        slots_are = λ i. element_slots (of_bytes i) (sym same_count i) (elements_from layouts element);
      }

      bytes_for : (t : Table D) (p : Placing) (holds : Holds layouts s t p) (given : Bor (List ℕ)) → given.now ≡ bytes
          → AsksFor layouts s t (place.Array ty count) (contents.Bytes given) (array_of element) count (array ty (map byte_value bytes))
      bytes_for t p holds given same =
          let values : List Value = map byte_value bytes in
          let long : length values ≡ count = length-map bytes byte_value ∙ same_count in
          record {
            not_host = λ host. host;
            of_size = array_size_is t p holds values long;
            typed = typed-bytes t.types t.objects ty element bytes (element_here t p holds) of_bytes;
            contents = λ ids names roots stands. ap (map byte_value) (sym same);
            stands = λ names h same_type has front size lie. array_stands_as t p holds values long names h same_type has size lie;
          }

  -- What is requested where it may be placed
  pub asks : (request : Place) (given : Contents) → (counted : IsCounted request) (can : CanPlaceIn D layouts s request given) → Asks layouts s t0 request given (new_of D layouts s request given counted can)
  asks (place.Struct ty) (contents.Each values) counted can = record {
    fit = fields_fit (struct_fields_at s.types ty) values.now can (struct_base layouts);
    some = (let vs = fields_some (struct_fields_at s.types ty) values.now can in (struct ty (stored_in (struct_fields_of t0.types ty) vs.0), (vs.0, (vs.1, refl))));
    asks_for = λ t p o holds is.
        let e : o ≡ struct ty (stored_in can.fields is.0) = is.1.1 ∙ ap (λ (fs : List FieldType). struct ty (stored_in fs is.0)) (fields_are ty values.now can t p holds) in
        subst (λ (x : Object D). AsksFor layouts s t (place.Struct ty) (contents.Each values) (struct_of can.fields) 0 x) (sym e) (struct_for ty values.now can t p holds is.0 is.1.0 values refl);
  }
  asks (place.Exn ty tag) (contents.Each values) counted can = record {
    fit = exn_fit ty tag values.now can;
    some = (let vs = fields_some (exn_fields_at s.types ty) values.now can in (exception ty tag (stored_in (exn_fields_of t0.types ty) vs.0), (vs.0, (vs.1, refl))));
    asks_for = λ t p o holds is.
        let e : o ≡ exception ty tag (stored_in can.fields is.0) = is.1.1 ∙ ap (λ (fs : List FieldType). exception ty tag (stored_in fs is.0)) (exn_fields_are ty tag values.now can t p holds) in
        subst (λ (x : Object D). AsksFor layouts s t (place.Exn ty tag) (contents.Each values) (exn_of (exn_params ty tag values.now can).0) 0 x) (sym e) (exn_for ty tag values.now can t p holds is.0 is.1.0 values refl);
  }
  asks (place.Exn ty tag) (contents.Same value) counted can = absurd can
  asks (place.Exn ty tag) (contents.Bytes bytes) counted can = absurd can
  asks (place.Array ty count) (contents.Each values) counted can = record {
    fit = elements_fit ty count can.element can.declared values.now can.same_count can.each;
    some = (let vs = elements_some ty count can.element can.declared values.now can.same_count can.each in (array ty (map (stored (element_of t0.types ty)) vs.0), (vs.0, (vs.1, refl))));
    asks_for = λ t p o holds is.
        let e : o ≡ array ty (map (stored can.element.element_type) is.0) = is.1.1 ∙ ap (λ (st : StorageType). array ty (map (stored st) is.0)) (element_is ty count can.element can.declared t p holds) in
        subst (λ (x : Object D). AsksFor layouts s t (place.Array ty count) (contents.Each values) (array_of can.element) count x) (sym e)
        (elements_for ty count can.element can.declared values.now can.same_count can.each t p holds is.0 is.1.0 values refl);
  }
  asks (place.Array ty count) (contents.Same value) counted can = record {
    fit = λ ids roots have keeps. same_fit ty count can.element can.declared value.now can.fits ids roots (have_same ids ty count value have) keeps;
    some = (let v = same_some ty count can.element can.declared value.now can.fits in (array ty (replicate count (stored (element_of t0.types ty) v.0)), (v.0, (v.1, refl))));
    asks_for = λ t p o holds is.
        let e : o ≡ array ty (replicate count (stored can.element.element_type is.0)) = is.1.1 ∙ ap (λ (st : StorageType). array ty (replicate count (stored st is.0))) (element_is ty count can.element can.declared t p holds) in
        subst (λ (x : Object D). AsksFor layouts s t (place.Array ty count) (contents.Same value) (array_of can.element) count x) (sym e)
        (same_for ty count can.element can.declared value.now can.fits t p holds is.0 is.1.0 value refl);
  }
  asks (place.Array ty count) (contents.Bytes bytes) counted can = record {
    fit = λ ids roots have keeps. bytes_fit ty count can.element can.declared bytes.now can.of_bytes can.same_count roots;
    some = (array ty (map byte_value bytes.now), refl);
    asks_for = λ t p o holds is. subst (λ (x : Object D). AsksFor layouts s t (place.Array ty count) (contents.Bytes bytes) (array_of can.element) count x) (sym is)
        (bytes_for ty count can.element can.declared bytes.now can.of_bytes can.same_count t p holds bytes refl);
  }
  asks (place.Struct ty) (contents.Same value) counted can = absurd can
  asks (place.Struct ty) (contents.Bytes bytes) counted can = absurd can

  -- its function values and continuations are those that are given
  pub asked_side_values : (request : Place) (given : Contents) → CanPlaceIn D layouts s request given → (t : Table D) (p : Placing) (o : Object D) → Holds layouts s t p → IsObjectOf s t request given o
      → (known : SideValues) → with_side_values (raw_side_values (request_values request given)) known ≡ with_side_values (side_values (object_values o)) known
  asked_side_values (place.Struct ty) (contents.Each values) can t p o holds is known =
      let e : o ≡ struct ty (stored_in can.fields is.0) = is.1.1 ∙ ap (λ (fs : List FieldType). struct ty (stored_in fs is.0)) (fields_are ty values.now can t p holds) in
      fields_side_values (struct_fields_at s.types ty) values.now can t is.0 is.1.0 known ∙ ap (λ (x : Object D). with_side_values (side_values (object_values x)) known) (sym e)
  asked_side_values (place.Exn ty tag) (contents.Each values) can t p o holds is known =
      let e : o ≡ exception ty tag (stored_in can.fields is.0) = is.1.1 ∙ ap (λ (fs : List FieldType). exception ty tag (stored_in fs is.0)) (exn_fields_are ty tag values.now can t p holds) in
      fields_side_values (exn_fields_at s.types ty) values.now can t is.0 is.1.0 known ∙ ap (λ (x : Object D). with_side_values (side_values (object_values x)) known) (sym e)
  asked_side_values (place.Array ty count) (contents.Each values) can t p o holds is known =
      ap (λ (given : SideValues). with_side_values given known) (all-stand s t values.now is.0 is.1.0 ∙ sym (side-mapped (element_of t.types ty) is.0)) ∙ ap (λ (x : Object D). with_side_values (side_values (object_values x)) known) (sym is.1.1)
  asked_side_values (place.Array ty count) (contents.Same value) can t p o holds is known =
      same_side_values ty count value (stored (element_of t.types ty) is.0) (λ some. raw-stands s t value.now is.0 (is.1.0 some) ∙ sym (side-stored (element_of t.types ty) is.0)) known
      ∙ ap (λ (x : Object D). with_side_values (side_values (object_values x)) known) (sym is.1.1)
  asked_side_values (place.Array ty count) (contents.Bytes bytes) can t p o holds is known =
      ap (λ (given : SideValues). with_side_values given known) (sym (side-bytes bytes.now)) ∙ ap (λ (x : Object D). with_side_values (side_values (object_values x)) known) (sym is)
  asked_side_values (place.Struct ty) (contents.Same value) can t p o holds is known = absurd can
  asked_side_values (place.Struct ty) (contents.Bytes bytes) can t p o holds is known = absurd can
  asked_side_values (place.Exn ty tag) (contents.Same value) can t p o holds is known = absurd can
  asked_side_values (place.Exn ty tag) (contents.Bytes bytes) can t p o holds is known = absurd can

  -- and how large it is
  pub sized : (request : Place) (given : Contents) → CanPlaceIn D layouts s request given → Sized layouts s request given
  sized (place.Struct ty) (contents.Each values) can =
      let size = struct_size_of layouts s.types ty can.fields can.declared in
      record {
        size = size.0;
        is_size = size.1;
        of_object = λ t p o holds is. ap (object_size layouts t.types) is.1.1 ∙ ap (fields_size layouts) (declared_here ty values.now can t p holds);
      }
  sized (place.Exn ty tag) (contents.Each values) can =
      let params = exn_params ty tag values.now can in
      let size = exn_size_of layouts s.types ty tag params.0 params.1.0 in
      record {
        size = size.0;
        is_size = size.1;
        of_object = λ t p o holds is. ap (object_size layouts t.types) is.1.1 ∙ exn_size_is ty tag values.now can t p holds layouts;
      }
  sized (place.Exn ty tag) (contents.Same value) can = absurd can
  sized (place.Exn ty tag) (contents.Bytes bytes) can = absurd can
  sized (place.Array ty count) (contents.Each values) can =
      let size = array_size_of layouts s.types ty count can.element can.declared in
      record {
        size = size.0;
        is_size = size.1;
        of_object = λ t p o holds is.
            let kept : List Value = map (stored (element_of t.types ty)) is.0 in
            ap (object_size layouts t.types) is.1.1
            ∙ array_size_is ty count can.element can.declared t p holds kept (length-map is.0 (stored (element_of t.types ty)) ∙ sym is.1.0.same_count ∙ can.same_count) layouts;
      }
  sized (place.Array ty count) (contents.Same value) can =
      let size = array_size_of layouts s.types ty count can.element can.declared in
      record {
        size = size.0;
        is_size = size.1;
        of_object = λ t p o holds is.
            let kept : Value = stored (element_of t.types ty) is.0 in
            ap (object_size layouts t.types) is.1.1 ∙ array_size_is ty count can.element can.declared t p holds (replicate count kept) (length-replicate count kept) layouts;
      }
  sized (place.Array ty count) (contents.Bytes bytes) can =
      let size = array_size_of layouts s.types ty count can.element can.declared in
      record {
        size = size.0;
        is_size = size.1;
        of_object = λ t p o holds is.
            ap (object_size layouts t.types) is ∙ array_size_is ty count can.element can.declared t p holds (map byte_value bytes.now) (length-map bytes.now byte_value ∙ can.same_count) layouts;
      }
  sized (place.Struct ty) (contents.Same value) can = absurd can
  sized (place.Struct ty) (contents.Bytes bytes) can = absurd can
