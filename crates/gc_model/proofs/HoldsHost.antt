-- A store that holds a table holds it after the value of a host object was set.
use Rattle.std.proofs.Common.{◌≡◌, ◌≢◌, ℕ, zero, suc, ◌+◌, inl, inr, Bool, true, List, [], ◌∷◌, Option, Some, sym, ap, ◌∙◌, refl, subst, arith}
use Rattle.std.specs.List.{slice_get}
use Rattle.std.specs.Ordering.{nat_cmp}
use Rattle.std.specs.FinMap.{FinMap, get, insert, gets}
use Rattle.std.proofs.lemmas.Bool.{cases_eq}
use Rattle.std.proofs.lemmas.Grind.{common_steps}
use Rattle.std.proofs.lemmas.Option.{none-some, same_Some}
use Rattle.gc_types.specs.declared.value.HeapType.{HeapType}
use Rattle.gc_types.specs.declared.value.StorageType.{StorageType}
use Rattle.gc_types.specs.declared.value.StorageType.TheVariants as storage
use Rattle.gc_types.specs.declared.value.ValType.{ValType}
use Rattle.gc_types.specs.declared.value.ValType.TheVariants as val
use Rattle.gc_types.specs.declared.kind.Layouts.{Layouts}
use Rattle.gc_types.specs.declared.kind.Layouts.TheVariants.{Null, Counting, Copying}
use Rattle.gc_types.specs.Declarations.{Declaration}
use Rattle.gc_types.specs.Layouts.{round_up}
use Rattle.gc_owner.specs.declared.entry.GcClass.TheVariants.{Any, Extern, Exn}
use Rattle.gc_view.specs.Heaps.{HeapObject}
use Rattle.gc_view.specs.Sizes.{alignment}
use Rattle.gc_model.specs.Values.{null, small, at, Value, numeric, function, continuation, reference, Object, struct, array, host, exception}
use Rattle.gc_model.specs.Reach.{object_values}
use Rattle.gc_model.specs.Table.{Table, change_at, with_host_value, set_host}
use Rattle.gc_model.specs.Fits.{object_fits_any, object_fits_extern, object_fits_exn, fits_type, fits}
use Rattle.gc_model.specs.Reads.{host_value}
use Rattle.gc_model.specs.Sizes.{object_size, next_after}
use Rattle.gc_model.specs.Stores.{StoreView, with_host_at}
use Rattle.gc_model.specs.Holds.{Placing, Names, naming, Holds, KindHolds, Stands, ObjectsHold, IsHostAt, HasHostValue, HostsBy, TypedBy}
use Rattle.gc_model.proofs.Changes.{length-change_at, slice_get-change_at_same, slice_get-change_at_other}
use Rattle.gc_model.proofs.Hosts.{host_alone}
use Rattle.gc_model.proofs.HoldsParts.{heap_changed, pending_changed}
use Rattle.gc_model.proofs.Thrown.{thrown-beside}

-- What fits a type doesn't hang on the values of host objects

any_alike : {D : Type 0} (types : List Declaration) (ty : HeapType) (w : D) (o : Object D) → object_fits_any types ty (Some (with_host_value w o)) ≡ object_fits_any types ty (Some o)
any_alike types ty w (struct own values) = refl
any_alike types ty w (array own values) = refl
any_alike types ty w (host value) = refl
any_alike types ty w (exception own tag values) = refl

extern_alike : {D : Type 0} (ty : HeapType) (w : D) (o : Object D) → object_fits_extern ty (Some (with_host_value w o)) ≡ object_fits_extern ty (Some o)
extern_alike ty w (struct own values) = refl
extern_alike ty w (array own values) = refl
extern_alike ty w (host value) = refl
extern_alike ty w (exception own tag values) = refl

exn_alike : {D : Type 0} (types : List Declaration) (ty : HeapType) (w : D) (o : Object D) → object_fits_exn types ty (Some (with_host_value w o)) ≡ object_fits_exn types ty (Some o)
exn_alike types ty w (struct own values) = refl
exn_alike types ty w (array own values) = refl
exn_alike types ty w (host value) = refl
exn_alike types ty w (exception own tag values) = refl

size_alike : {D : Type 0} (layouts : Layouts) (types : List Declaration) (w : D) (o : Object D) → object_size layouts types (with_host_value w o) ≡ object_size layouts types o
size_alike layouts types w (struct own values) = refl
size_alike layouts types w (array own values) = refl
size_alike layouts types w (host value) = refl
size_alike layouts types w (exception own tag values) = refl

stands_alike : {D : Type 0} (layouts : Layouts) (types : List Declaration) (names : Names) (w : D) (o : Object D) (h : HeapObject) → Stands layouts types names o h → Stands layouts types names (with_host_value w o) h
stands_alike layouts types names w (struct own values) h is = is
stands_alike layouts types names w (array own values) h is = is
stands_alike layouts types names w (host value) h is = is
stands_alike layouts types names w (exception own tag values) h is = is

-- what a test of an object says of one that is changed so
tests_alike : {D : Type 0} (test : Option (Object D) → Bool) (w : D) → ((o : Object D) → test (Some (with_host_value w o)) ≡ test (Some o)) → (position : ℕ) (objects : List (Object D)) (p : ℕ)
    → test (slice_get (change_at position (with_host_value w) objects) p) ≡ test (slice_get objects p)
tests_alike test w alike position [] p = refl
tests_alike test w alike zero (o ∷ objects) zero = alike o
tests_alike test w alike zero (o ∷ objects) (suc p) = refl
tests_alike test w alike (suc position) (o ∷ objects) zero = refl
tests_alike test w alike (suc position) (o ∷ objects) (suc p) = tests_alike test w alike position objects p

module _ {D : Type 0} (types : List Declaration) (objects : List (Object D)) (position : ℕ) (w : D) where
  abbrev objects' : List (Object D)
  objects' = change_at position (with_host_value w) objects

  type_alike : (ty : ValType) (v : Value) → fits_type types objects ty v ≡ true → fits_type types objects' ty v ≡ true
  type_alike val.I32 (numeric kind n) e = e
  type_alike val.I64 (numeric kind n) e = e
  type_alike val.F32 (numeric kind n) e = e
  type_alike val.F64 (numeric kind n) e = e
  type_alike val.V128 (numeric kind n) e = e
  type_alike (val.Ref ty) (function f) e = e
  type_alike (val.Ref ty) (continuation c) e = e
  type_alike (val.Ref ty) (reference class null) e = e
  type_alike (val.Ref ty) (reference Any (small n)) e = e
  type_alike (val.Ref ty) (reference Extern (small n)) e = e
  type_alike (val.Ref ty) (reference Exn (small n)) e = e
  type_alike (val.Ref ty) (reference Any (at p)) e = tests_alike (object_fits_any types ty.heap_type) w (any_alike types ty.heap_type w) position objects p ∙ e
  type_alike (val.Ref ty) (reference Extern (at p)) e = tests_alike (object_fits_extern ty.heap_type) w (extern_alike ty.heap_type w) position objects p ∙ e
  type_alike (val.Ref ty) (reference Exn (at p)) e = tests_alike (object_fits_exn types ty.heap_type) w (exn_alike types ty.heap_type w) position objects p ∙ e
  type_alike _ _ e = absurd (cc)

  fits-alike : (ty : StorageType) (v : Value) → fits types objects ty v ≡ true → fits types objects' ty v ≡ true
  fits-alike storage.I8 v e = type_alike val.I32 v e
  fits-alike storage.I16 v e = type_alike val.I32 v e
  fits-alike (storage.ValType ty) v e = type_alike ty v e

  -- each value fits its type
  typed-alike : (d : D) → slice_get objects position ≡ Some (host d) → TypedBy types objects → TypedBy types objects'
  typed-alike d is typed p index x value e f = elim (cases_eq p position) [
    | inl same ↦
        let both : host w ≡ x = same_Some (host w) x (sym (slice_get-change_at_same position (with_host_value w) objects (host d) is) ∙ ap (slice_get objects') (sym same) ∙ e) in
        absurd (none-some value (ap (λ (y : Object D). slice_get (object_values y) index) both ∙ f))
    | inr differ ↦
        let was = typed p index x value (sym (slice_get-change_at_other position (with_host_value w) objects p differ) ∙ e) f in
        record { field = was.field; field_is = was.field_is; is_fit = fits-alike was.field.element_type value was.is_fit }
  ]

-- where the null heap goes on is the same
next-alike : {D : Type 0} (types : List Declaration) (n position : ℕ) (w : D) (objects : List (Object D)) → next_after types n (change_at position (with_host_value w) objects) ≡ next_after types n objects
next-alike types n position w [] = refl
next-alike types n zero w (o ∷ objects) = ap (λ size. next_after types (round_up n alignment + size) objects) (size_alike Null types w o)
next-alike types n (suc position) w (o ∷ objects) = next-alike types (round_up n alignment + object_size Null types o) position w objects

module _ {D : Type 0} (layouts : Layouts) (s : StoreView D) (t : Table D) (place : Placing) (position id : ℕ) (d w : D) (holds : Holds layouts s t place) (is : IsHostAt t.objects place s.heap.content position id d) where
  abbrev changed : List (Object D)
  changed = change_at position (with_host_value w) t.objects

  objects : ObjectsHold layouts (set_host position w t) (naming place s.ids) s.heap
  objects = record {
    placed = λ p word e.
        let held = holds.objects.placed p word e in
        elim (cases_eq p position) [
          | inl same ↦ record {
            object = held.object;
            entry = with_host_value w held.entry;
            in_heap = held.in_heap;
            in_table = ap (slice_get changed) same ∙ slice_get-change_at_same position (with_host_value w) t.objects held.entry (ap (slice_get t.objects) (sym same) ∙ held.in_table);
            stands = stands_alike layouts t.types (naming place s.ids) w held.entry held.object held.stands;
          }
          | inr differ ↦ record {
            object = held.object;
            entry = held.entry;
            in_heap = held.in_heap;
            in_table = slice_get-change_at_other position (with_host_value w) t.objects p differ ∙ held.in_table;
            stands = held.stands;
          }
        ];
    only = holds.objects.only;
    injective = holds.objects.injective;
    even = holds.objects.even;
  }

  by_kind : (k : Layouts) → KindHolds k t place s.heap → KindHolds k (set_host position w t) place s.heap
  by_kind Null kind = record {
    all_held = λ p below. kind.all_held p (omega (arith, below, length-change_at position (with_host_value w) t.objects));
    allocated = kind.allocated ∙ sym (next-alike t.types 1 position w t.objects);
  }
  by_kind Counting kind = tt
  by_kind Copying kind = tt

  abbrev Before : ℕ → ℕ → D → Type 0
  Before p i v = IsHostAt t.objects place s.heap.content p i v

  abbrev After : ℕ → ℕ → D → Type 0
  After p i v = IsHostAt changed place s.heap.content p i v

  now_here : slice_get changed position ≡ Some (host w)
  now_here = slice_get-change_at_same position (with_host_value w) t.objects (host d) is.in_table

  other_after : (p i : ℕ) (v : D) → p ≢ position → Before p i v → After p i v
  other_after p i v differ x =
      record { word = x.word; object = x.object; in_table = slice_get-change_at_other position (with_host_value w) t.objects p differ ∙ x.in_table; placed = x.placed; in_heap = x.in_heap; stands = x.stands }

  -- a host object of after was one, whatever its value
  was_host : (p i : ℕ) (v : D) → After p i v → (u : D) × Before p i u
  was_host p i v x = elim (cases_eq p position) [
    | inl same ↦ (d, record { word = x.word; object = x.object; in_table = ap (slice_get t.objects) same ∙ is.in_table; placed = x.placed; in_heap = x.in_heap; stands = x.stands })
    | inr differ ↦
        (v, record { word = x.word; object = x.object; in_table = sym (slice_get-change_at_other position (with_host_value w) t.objects p differ) ∙ x.in_table; placed = x.placed; in_heap = x.in_heap; stands = x.stands })
  ]

  here_after : After position id w
  here_after = record { word = is.word; object = is.object; in_table = now_here; placed = is.placed; in_heap = is.in_heap; stands = is.stands }

  put_there : (m : FinMap nat_cmp D) → get (insert m id w) id ≡ Some w
  put_there m = grind (arith, common_steps, gets)

  put_beside : (m : FinMap nat_cmp D) (i : ℕ) → i ≢ id → get (insert m id w) i ≡ get m i
  put_beside m i other = grind (arith, common_steps, gets)

  abbrev HasAt : ℕ → D → Type 0
  HasAt p v = HasHostValue changed place s.heap.content (insert s.hosts id w) p v

  value_is : (p : ℕ) (v : D) → p ≡ position → slice_get changed p ≡ Some (host v) → w ≡ v
  value_is p v same e =
      let both : host w ≡ host v = same_Some (host w) (host v) (sym now_here ∙ ap (slice_get changed) (sym same) ∙ e) in
      same_Some w v (ap host_value both)

  id_alone : (i : ℕ) (v : D) (p : ℕ) → Before p i v → p ≡ position → i ≡ id
  id_alone i v p x same = host_alone t.objects place s.heap.content position i id v d (subst (λ (q : ℕ). Before q i v) same x) is

  hosts : HostsBy changed place s.heap.content (insert s.hosts id w)
  hosts = record {
    each = λ p word v placed in_table. elim (cases_eq p position) [
      | inl same ↦
          let value : w ≡ v = value_is p v same in_table in
          subst (λ (x : D). HasAt p x) value (subst (λ (q : ℕ). HasAt q w) (sym same) (record { id = id; is_at = here_after; held = put_there s.hosts }))
      | inr differ ↦
          let has = holds.hosts.each p word v placed (sym (slice_get-change_at_other position (with_host_value w) t.objects p differ) ∙ in_table) in
          let other : has.id ≢ id = λ same. differ (holds.hosts.apart p position id v d (subst (λ (i : ℕ). Before p i v) same has.is_at) is) in
          record { id = has.id; is_at = other_after p has.id v differ has.is_at; held = put_beside s.hosts has.id other ∙ has.held }
    ];
    only = λ i v found. elim (cases_eq i id) [
      | inl same ↦
          let value : w ≡ v = same_Some w v (sym (put_there s.hosts) ∙ ap (get (insert s.hosts id w)) (sym same) ∙ found) in
          (position, subst (λ (k : ℕ). After position k v) (sym same) (subst (λ (x : D). After position id x) value here_after))
      | inr other ↦
          let entry = holds.hosts.only i v (sym (put_beside s.hosts i other) ∙ found) in
          let differ : entry.0 ≢ position = λ same. other (id_alone i v entry.0 entry.1 same) in
          (entry.0, other_after entry.0 i v differ entry.1)
    ];
    apart = λ p q i v u is_p is_q.
        let a = was_host p i v is_p in
        let b = was_host q i u is_q in
        holds.hosts.apart p q i a.0 b.0 a.1 b.1;
  }

  -- the store holds the table with the value set
  pub holds_set_host : Holds layouts (with_host_at id w s) (set_host position w t) place
  holds_set_host =
      pending_changed
      (heap_changed holds
      (record {
        made = holds.memory.made;
        capacity = holds.memory.capacity;
        no_pages = holds.memory.no_pages;
        no_objects = λ unmade. ap (change_at position (with_host_value w)) (holds.memory.no_objects unmade);
      })
      objects
      (by_kind layouts holds.by_kind)
      hosts
      (typed-alike t.types t.objects position w d is.in_table holds.typed))
      (thrown-beside place t.objects position w t.pending s.pending holds.pending)
