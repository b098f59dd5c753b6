-- What the tests of values find.
use Rattle.std.proofs.Common.{inl, inr, ◌≡◌, ◌⊎◌, ℕ, zero, suc, ◌<◌, ◌≤◌, Bool, true, false, List, [], ◌∷◌, length, Option, Some, None, Result, Ok, Err, IfOk, IsTrue, sym, ap, ◌∙◌, refl, subst, arith}
use Rattle.std.specs.Prelude.{is_ok}
use Rattle.std.specs.List.{slice_get}
use Rattle.std.specs.Result.{IsErrAnd}
use Rattle.std.proofs.lemmas.Option.{none-some, slice_get_within}
use Rattle.std.proofs.lemmas.Bool.{cases_lt}
use Rattle.gc_types.specs.declared.kind.Layouts.{Layouts}
use Rattle.gc_types.specs.declared.value.FieldType.{FieldType}
use Rattle.gc_types.specs.declared.value.StorageType.{StorageType}
use Rattle.gc_types.specs.declared.value.StorageType.TheVariants as storage
use Rattle.gc_types.specs.declared.value.ValType.{ValType}
use Rattle.gc_types.specs.Declarations.{Declaration}
use Rattle.gc_types.specs.Values.{unpacked}
use Rattle.gc_model.specs.Values.{Value, Object}
use Rattle.gc_model.specs.Fits.{fits, fits_type}
use Rattle.gc_model.specs.Table.{Table}
use Rattle.gc_model.specs.Stores.{StoreView}
use Rattle.gc_model.specs.Holds.{HoldsTable}
use Rattle.gc_values.specs.declared.root.GcRootIndex.{GcRootIndex}
use Rattle.gc_values.specs.declared.root.RawValue.{RawValue}
use Rattle.gc_values.specs.declared.root.RootFault.{RootFault}
use Rattle.gc_values.specs.declared.root.RootedObject.{RootedObject}
use Rattle.gc_store.specs.Roots.{FindsRoot}
use Rattle.gc_store.specs.Values.{RawStands}
use Rattle.gc_objects.specs.declared.faults.ValueFault.{ValueFault}
use Rattle.gc_objects.specs.declared.faults.ValueFault.TheVariants as value_fault
use Rattle.gc_objects.specs.declared.val.Val.{Val}
use Rattle.gc_objects.specs.Given.{raw_of, goes, ValStands, RootIsLive, IsLiveOrGone, Goes, Misfits, ChecksValue, ChecksValues, AllGo, IsFirst, CanStoreAs, AllStorable}

-- a packed type takes what its unpacked type takes
fits-unpacked : {D : Type 0} (types : List Declaration) (objects : List (Object D)) (ty : StorageType) (x : Value) → fits_type types objects (unpacked ty) x ≡ fits types objects ty x
fits-unpacked types objects storage.I8 x = refl
fits-unpacked types objects storage.I16 x = refl
fits-unpacked types objects (storage.ValType ty) x = refl

-- a root that the store finds is live
pub root_is_live : (D : Type 0) (layouts : Layouts) (s : StoreView D) (root : Option GcRootIndex) (handle : GcRootIndex) (result : Result RootedObject RootFault) (b : Bool) → root ≡ Some handle → b ≡ is_ok result → IfOk result (FindsRoot D layouts s handle) → IsTrue b → RootIsLive D layouts s root
root_is_live D layouts s root handle (Ok x) b is e found live =
    subst (RootIsLive D layouts s) (sym is) (record { table = found.table; holds = found.holds; root = found.root; named = found.named })
root_is_live D layouts s root handle (Err why) b is e found live = absurd (cc (sym live ∙ e))

pub no_root_live : (D : Type 0) (layouts : Layouts) (s : StoreView D) (root : Option GcRootIndex) → root ≡ None → RootIsLive D layouts s root
no_root_live D layouts s root is = subst (RootIsLive D layouts s) (sym is) tt

-- the value that a live one stands for
value_of : {D : Type 0} (s : StoreView D) (t : Table D) (v : Val) (b : Bool) → b ≡ true → IsLiveOrGone s t v b → (x : Value) × ValStands s t v x
value_of s t v b live found = subst (λ (c : Bool). IsLiveOrGone s t v c) live found

module _ {D : Type 0} (s : StoreView D) (t : Table D) (field : Option FieldType) (v : Val) (live : Bool) where
  pub value_gone : live ≡ false → IsLiveOrGone s t v live → ChecksValue s t field v (Err value_fault.Unrooted)
  value_gone gone found = subst (λ (c : Bool). IsLiveOrGone s t v c) gone found

  module _ (is : live ≡ true) (found : IsLiveOrGone s t v live) where
    pub untyped_misfits : field ≡ None → ChecksValue s t field v (Err value_fault.TypeMismatch)
    untyped_misfits none =
        let x = value_of s t v live is found in
        record { value = x.0; stands = x.1; fits_not = ap (λ (f : Option FieldType). goes t f x.0) none }

    module _ (f : FieldType) (some : field ≡ Some f) (ty : ValType) (given : RawValue) (b : Bool) (ty_is : ty ≡ unpacked f.element_type) (given_is : given ≡ raw_of v)
        (answers : (x : Value) → RawStands s t given x → b ≡ fits_type t.types t.objects ty x) where
      goes_as_fits : (x : Value) → ValStands s t v x → goes t field x ≡ b
      goes_as_fits x stands =
          ap (λ (o : Option FieldType). goes t o x) some
          ∙ sym (fits-unpacked t.types t.objects f.element_type x)
          ∙ sym (answers x (subst (λ (r : RawValue). RawStands s t r x) (sym given_is) stands) ∙ ap (λ (a : ValType). fits_type t.types t.objects a x) ty_is)

      pub value_goes_there : b ≡ true → ChecksValue s t field v (Ok tt)
      value_goes_there passes =
          let x = value_of s t v live is found in
          (x.0, record { stands = x.1; fits = goes_as_fits x.0 x.1 ∙ passes })

      pub value_misfits : b ≡ false → ChecksValue s t field v (Err value_fault.TypeMismatch)
      value_misfits not =
          let x = value_of s t v live is found in
          record { value = x.0; stands = x.1; fits_not = goes_as_fits x.0 x.1 ∙ not }

-- the values before an index may be stored, and go where they are meant to
pub record CheckedSoFar (D : Type 0) (layouts : Layouts) (s : StoreView D) (types : ℕ → Option FieldType) (vs : List Val) (index : ℕ) : Type 0 where
  pub stores : (i : ℕ) (v : Val) → i < index → slice_get vs i ≡ Some v → CanStoreAs D layouts s (types i) v
  pub goes : (t : Table D) → HoldsTable layouts s t → (i : ℕ) (v : Val) → i < index → slice_get vs i ≡ Some v → (x : Value) × Goes s t (types i) v x

pub checked_none : (D : Type 0) (layouts : Layouts) (s : StoreView D) (types : ℕ → Option FieldType) (vs : List Val) → CheckedSoFar D layouts s types vs 0
checked_none D layouts s types vs = record { stores = λ i v lt e. absurd (omega (arith, lt)); goes = λ t holds i v lt e. absurd (omega (arith, lt)) }

-- an index below the next one is that one or below it
last_or_before : (i n : ℕ) → i < suc n → (i < n) ⊎ (i ≡ n)
last_or_before i n lt =
    elim (cases_lt i n) [
      | inl below ↦ inl below
      | inr above ↦ inr (omega (arith, lt, above))
    ]

module _ (D : Type 0) (layouts : Layouts) (s : StoreView D) (types : ℕ → Option FieldType) (vs : List Val) (index : ℕ) (so_far : CheckedSoFar D layouts s types vs index)
    (field : Option FieldType) (v : Val) (field_is : field ≡ types index) (value_is : slice_get vs index ≡ Some v) where
  the_value : (w : Val) (i : ℕ) → i ≡ index → slice_get vs i ≡ Some w → v ≡ w
  the_value w i here e = let both : Some v ≡ Some w = sym value_is ∙ ap (slice_get vs) (sym here) ∙ e in grind (arith, both)

  -- one more value may be stored
  pub checked_more : CanStoreAs D layouts s field v → ((t : Table D) → HoldsTable layouts s t → ChecksValue s t field v (Ok tt)) → CheckedSoFar D layouts s types vs (suc index)
  checked_more can checks = record {
    stores = λ i w lt e.
        elim (last_or_before i index lt) [
          | inl below ↦ so_far.stores i w below e
          | inr here ↦ subst (λ (n : ℕ). CanStoreAs D layouts s (types n) w) (sym here) (subst (λ (o : Option FieldType). CanStoreAs D layouts s o w) field_is (subst (CanStoreAs D layouts s field) (the_value w i here e) can))
        ];
    goes = λ t holds i w lt e.
        elim (last_or_before i index lt) [
          | inl below ↦ so_far.goes t holds i w below e
          | inr here ↦ subst (λ (n : ℕ). (x : Value) × Goes s t (types n) w x) (sym here)
              (subst (λ (o : Option FieldType). (x : Value) × Goes s t o w x) field_is (subst (λ (u : Val). (x : Value) × Goes s t field u x) (the_value w i here e) (checks t holds)))
        ];
  }

  first_at : (t : Table D) → HoldsTable layouts s t → IsFirst s t types vs index v
  first_at t holds = record { value_at = value_is; before = λ i w lt e. so_far.goes t holds i w lt e }

  -- it is the first that is refused
  pub checked_refused : (why : ValueFault) → ((t : Table D) → HoldsTable layouts s t → ChecksValue s t field v (Err why)) → (t : Table D) → HoldsTable layouts s t → ChecksValues s t types vs (Err why)
  checked_refused value_fault.Unrooted checks t holds = (index, (v, (first_at t holds, checks t holds)))
  checked_refused value_fault.TypeMismatch checks t holds = (index, (v, (first_at t holds, subst (λ (o : Option FieldType). Misfits s t o v) field_is (checks t holds))))

all_each : {D : Type 0} (s : StoreView D) (t : Table D) (types : ℕ → Option FieldType) (w : Val) (y : Value) (vs : List Val) (xs : List Value) → Goes s t (types 0) w y → AllGo s t (λ i. types (suc i)) vs xs
    → (i : ℕ) (v : Val) (x : Value) → slice_get (w ∷ vs) i ≡ Some v → slice_get (y ∷ xs) i ≡ Some x → Goes s t (types i) v x
all_each s t types w y vs xs first rest zero v x e f =
    let w_is : w ≡ v = grind (arith, e) in
    let y_is : y ≡ x = grind (arith, f) in
    subst (λ (z : Value). Goes s t (types 0) v z) y_is (subst (λ (u : Val). Goes s t (types 0) u y) w_is first)
all_each s t types w y vs xs first rest (suc i) v x e f = rest.each i v x e f

-- where each value goes, all do
all_go : {D : Type 0} (s : StoreView D) (t : Table D) (types : ℕ → Option FieldType) (vs : List Val) → ((i : ℕ) (v : Val) → slice_get vs i ≡ Some v → (x : Value) × Goes s t (types i) v x) → (xs : List Value) × AllGo s t types vs xs
all_go s t types [] each = ([], record { same_count = refl; each = λ i v x e f. absurd (none-some v e) })
all_go s t types (w ∷ vs) each =
    let first = each 0 w refl in
    let rest = all_go s t (λ i. types (suc i)) vs (λ i. each (suc i)) in
    (first.0 ∷ rest.0, record { same_count = ap suc rest.1.same_count; each = all_each s t types w first.0 vs rest.0 first.1 rest.1 })

pub checked_all : (D : Type 0) (layouts : Layouts) (s : StoreView D) (types : ℕ → Option FieldType) (vs : List Val) (index : ℕ) → length vs ≤ index → CheckedSoFar D layouts s types vs index
    → (t : Table D) → HoldsTable layouts s t → ChecksValues s t types vs (Ok tt)
checked_all D layouts s types vs index over so_far t holds =
    all_go s t types vs (λ i v e. let within = slice_get_within vs i v e in so_far.goes t holds i v (omega (arith, within, over)) e)

pub checked_storable : (D : Type 0) (layouts : Layouts) (s : StoreView D) (types : ℕ → Option FieldType) (vs : List Val) (index : ℕ) → length vs ≤ index → CheckedSoFar D layouts s types vs index → AllStorable D layouts s types vs
checked_storable D layouts s types vs index over so_far i v e = let within = slice_get_within vs i v e in so_far.stores i v (omega (arith, within, over)) e

-- an error that a call hands on
pub err_is : {A B : Type 0} (r : Result A B) (f : B) → IsErrAnd r (λ e. e ≡ f) → r ≡ Err f
err_is (Ok x) f is = absurd is
err_is (Err e) f is = ap Err is
