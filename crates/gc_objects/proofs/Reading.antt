-- What the handle of a value that is read names.
use Rattle.std.proofs.Common.{inl, inr, ◌≡◌, ℕ, length, true, List, Option, Some, None, Ok, sym, ap, refl, subst, arith}
use Rattle.std.specs.List.{slice_get}
use Rattle.gc_types.specs.declared.kind.Layouts.{Layouts}
use Rattle.gc_types.specs.declared.kind.VMGcKind.{VMGcKind}
use Rattle.gc_types.specs.declared.kind.VMGcKind.TheVariants as kinds
use Rattle.gc_types.specs.declared.value.HeapType.{HeapType}
use Rattle.gc_types.specs.declared.value.StorageType.{StorageType}
use Rattle.gc_types.specs.declared.value.StorageType.TheVariants as storage
use Rattle.gc_types.specs.declared.value.ValType.TheVariants as val_type
use Rattle.gc_types.specs.Declarations.{Declaration}
use Rattle.gc_owner.specs.declared.entry.GcClass.{GcClass}
use Rattle.gc_owner.specs.declared.entry.GcClass.TheVariants.{Any, Extern, Exn}
use Rattle.gc_model.specs.Values.{Reference, null, small, at, Value, numeric, i32, i64, f32, f64, v128, function, continuation, reference, Object, struct, array, host, exception}
use Rattle.gc_model.specs.Fits.{fits, object_fits_any, object_fits_extern, object_fits_exn}
use Rattle.gc_model.specs.Reads.{after_read}
use Rattle.gc_model.specs.Table.{Table, push}
use Rattle.gc_model.specs.Stores.{StoreView}
use Rattle.gc_model.specs.Accounts.{Account, HoldsAccount}
use Rattle.gc_model.proofs.AccountLemmas.{some_account}
use Rattle.gc_values.specs.declared.root.GcRootIndex.{GcRootIndex}
use Rattle.gc_values.specs.declared.root.RawValue.{RawValue}
use Rattle.gc_values.specs.declared.root.RawValue.TheVariants as raw
use Rattle.gc_store.specs.Roots.{handle_of, NamesScoped, HasValue, CanRead}
use Rattle.gc_store.specs.Values.{IsReadAs, ReadsValue}
use Rattle.gc_store.specs.Kinds.{object_kind, TakesKind, IsReferenceOfKind, IsScopedOfKind}
use Rattle.gc_objects.specs.declared.val.Val.{Val}
use Rattle.gc_objects.specs.declared.val.Val.TheVariants as val
use Rattle.gc_objects.specs.Given.{root_of_handle, raw_of, class_kind, RootIsOfKind, IsGiven, RootNamesKind, ValNamesKind}
use Rattle.gc_objects.proofs.Pushed.{are_before, names_pushed, scoped_kind}
use Rattle.gc_objects.proofs.Pushing.{held_table}

-- an object is there, and a handle of that kind names it
abbrev IsTaken : {D : Type 0} → VMGcKind → Option (Object D) → Type 0
IsTaken {D} kind o = (object : Object D) × ((o ≡ Some object) × TakesKind kind (object_kind object))

any_taken : {D : Type 0} (types : List Declaration) (ty : HeapType) (o : Option (Object D)) → object_fits_any types ty o ≡ true → IsTaken kinds.AnyRef o
any_taken types ty None fit = absurd (cc fit)
any_taken types ty (Some (struct own values)) fit = (struct own values, (refl, inl refl))
any_taken types ty (Some (array own values)) fit = (array own values, (refl, inr refl))
any_taken types ty (Some (host value)) fit = absurd (cc fit)
any_taken types ty (Some (exception own tag values)) fit = absurd (cc fit)

extern_taken : {D : Type 0} (ty : HeapType) (o : Option (Object D)) → object_fits_extern ty o ≡ true → IsTaken kinds.ExternRef o
extern_taken ty None fit = absurd (cc fit)
extern_taken ty (Some (struct own values)) fit = (struct own values, (refl, λ e. cc e))
extern_taken ty (Some (array own values)) fit = (array own values, (refl, λ e. cc e))
extern_taken ty (Some (host value)) fit = (host value, (refl, λ e. cc e))
extern_taken ty (Some (exception own tag values)) fit = absurd (cc fit)

exn_taken : {D : Type 0} (types : List Declaration) (ty : HeapType) (o : Option (Object D)) → object_fits_exn types ty o ≡ true → IsTaken kinds.ExnRef o
exn_taken types ty None fit = absurd (cc fit)
exn_taken types ty (Some (struct own values)) fit = absurd (cc fit)
exn_taken types ty (Some (array own values)) fit = absurd (cc fit)
exn_taken types ty (Some (host value)) fit = absurd (cc fit)
exn_taken types ty (Some (exception own tag values)) fit = (exception own tag values, (refl, refl))

module _ {D : Type 0} (types : List Declaration) (objects : List (Object D)) where
  -- an object that fits in a class is one that its handles name
  placed_taken : (ty : StorageType) (class : GcClass) (p : ℕ) → fits types objects ty (reference class (at p)) ≡ true → IsTaken (class_kind class) (slice_get objects p)
  placed_taken storage.I8 class p fit = absurd (cc fit)
  placed_taken storage.I16 class p fit = absurd (cc fit)
  placed_taken (storage.ValType val_type.I32) class p fit = absurd (cc fit)
  placed_taken (storage.ValType val_type.I64) class p fit = absurd (cc fit)
  placed_taken (storage.ValType val_type.F32) class p fit = absurd (cc fit)
  placed_taken (storage.ValType val_type.F64) class p fit = absurd (cc fit)
  placed_taken (storage.ValType val_type.V128) class p fit = absurd (cc fit)
  placed_taken (storage.ValType (val_type.Ref ty)) Any p fit = any_taken types ty.heap_type (slice_get objects p) fit
  placed_taken (storage.ValType (val_type.Ref ty)) Extern p fit = extern_taken ty.heap_type (slice_get objects p) fit
  placed_taken (storage.ValType (val_type.Ref ty)) Exn p fit = exn_taken types ty.heap_type (slice_get objects p) fit

  no_small_exn : (ty : StorageType) (n : ℕ) → fits types objects ty (reference Exn (small n)) ≡ true → ⊥
  no_small_exn storage.I8 n fit = absurd (cc fit)
  no_small_exn storage.I16 n fit = absurd (cc fit)
  no_small_exn (storage.ValType val_type.I32) n fit = absurd (cc fit)
  no_small_exn (storage.ValType val_type.I64) n fit = absurd (cc fit)
  no_small_exn (storage.ValType val_type.F32) n fit = absurd (cc fit)
  no_small_exn (storage.ValType val_type.F64) n fit = absurd (cc fit)
  no_small_exn (storage.ValType val_type.V128) n fit = absurd (cc fit)
  no_small_exn (storage.ValType (val_type.Ref ty)) n fit = absurd (cc fit)

-- a reference that fits is of the kind that handles of its class are given as
small_kind : {D : Type 0} (t : Table D) (ty : StorageType) (class : GcClass) (n : ℕ) → fits t.types t.objects ty (reference class (small n)) ≡ true → IsReferenceOfKind (class_kind class) t (small n)
small_kind t ty Any n fit = tt
small_kind t ty Extern n fit = tt
small_kind t ty Exn n fit = absurd (no_small_exn t.types t.objects ty n fit)

-- What is read of a value whose handle is answered.
record IsReadRoot {D : Type 0} (new : StoreView D) (t : Table D) (x : Value) (class : GcClass) (handle : GcRootIndex) : Type 0 where
  reference_read : Reference
  value_is : x ≡ reference class reference_read
  after_is : after_read x t ≡ push reference_read t
  handle_is : handle ≡ handle_of new (length t.scoped) t.drops
  kind_is : (ty : StorageType) → fits t.types t.objects ty x ≡ true → IsReferenceOfKind (class_kind class) (push reference_read t) reference_read

read_root : {D : Type 0} (new : StoreView D) (t : Table D) (x : Value) (class : GcClass) (handle : GcRootIndex) → IsReadAs new t x (raw.Ref class (Some handle)) → IsReadRoot new t x class handle
read_root new t (numeric i32 n) class handle is = absurd (cc is.1.0)
read_root new t (numeric i64 n) class handle is = absurd (cc is.1.0)
read_root new t (numeric f32 n) class handle is = absurd (cc is)
read_root new t (numeric f64 n) class handle is = absurd (cc is)
read_root new t (numeric v128 n) class handle is = absurd (cc is)
read_root new t (function f) class handle is = absurd (cc is)
read_root new t (continuation c) class handle is = absurd (cc is)
read_root new t (reference own null) class handle is = absurd (cc is)
read_root new t (reference own (small n)) class handle is =
    let class_is : own ≡ class = grind (arith, is) in
    record {
      reference_read = small n;
      value_is = ap (λ (c : GcClass). reference c (small n)) class_is;
      after_is = refl;
      handle_is = grind (arith, is);
      kind_is = λ ty fit. subst (λ (c : GcClass). IsReferenceOfKind (class_kind c) t (small n)) class_is (small_kind t ty own n fit);
    }
read_root new t (reference own (at p)) class handle is =
    let class_is : own ≡ class = grind (arith, is) in
    record {
      reference_read = at p;
      value_is = ap (λ (c : GcClass). reference c (at p)) class_is;
      after_is = refl;
      handle_is = grind (arith, is);
      kind_is = λ ty fit. subst (λ (c : GcClass). IsReferenceOfKind (class_kind c) t (at p)) class_is (placed_taken t.types t.objects ty own p fit);
    }

module _ {D : Type 0} (layouts : Layouts) (old new : StoreView D) (index : ℕ) (root : GcRootIndex) (can : CanRead D layouts old root index) (given : RawValue)
    (reads : (t : Table D) (a : Account) (x : Value) → HoldsAccount layouts old t a → HasValue old t root index x → ReadsValue layouts t a x (Ok given) new) where
  root_kind : (class : GcClass) (handle : GcRootIndex) → given ≡ raw.Ref class (Some handle) → IsScopedOfKind D layouts new (class_kind class) handle
  root_kind class handle is =
      let t = can.table in
      let a = some_account layouts old t can.holds in
      let ok = reads t a.0 can.value a.1 can.has in
      let root = read_root new t can.value class handle (subst (IsReadAs new t can.value) is ok.1.0) in
      let typed = can.holds.1.typed can.has.position index can.has.object can.value can.has.object_is can.has.value_at in
      let r = root.reference_read in
      record {
        table = push r t;
        holds = held_table layouts new (push r t) a.0 (subst (λ (u : Table D). HoldsAccount layouts new u a.0) root.after_is ok.1.1);
        root = r;
        named = subst (λ (h : GcRootIndex). NamesScoped new (push r t) h r) (sym root.handle_is) (names_pushed t (are_before layouts old t can.holds) new r);
        of_kind = root.kind_is typed.field.element_type typed.is_fit;
      }

  any_root : (class : GcClass) (o : Option GcRootIndex) → given ≡ raw.Ref class o → RootIsOfKind D layouts new (class_kind class) o
  any_root class None is = tt
  any_root class (Some handle) is = root_kind class handle is

  root_given : (x : RawValue) → given ≡ x → IsGiven D layouts new x
  root_given (raw.I32 n) is = tt
  root_given (raw.I64 n) is = tt
  root_given (raw.F32 n) is = tt
  root_given (raw.F64 n) is = tt
  root_given (raw.V128 n) is = tt
  root_given (raw.Func f) is = tt
  root_given (raw.Cont c) is = tt
  root_given (raw.Ref class root) is = any_root class root is

  -- what is read is a value that the store gave
  pub is_given : IsGiven D layouts new given
  is_given = root_given given refl

  names_kind : (kind : VMGcKind) (o : Option GcRootIndex) → RootIsOfKind D layouts new kind o → RootNamesKind D layouts new kind o
  names_kind kind None is = tt
  names_kind kind (Some root) is = scoped_kind layouts new kind root is

  -- the handle of a value that is read names what it is given as
  pub value_kind : (v : Val) → raw_of v ≡ given → ValNamesKind D layouts new v
  value_kind (val.I32 n) is = tt
  value_kind (val.I64 n) is = tt
  value_kind (val.F32 n) is = tt
  value_kind (val.F64 n) is = tt
  value_kind (val.V128 n) is = tt
  value_kind (val.FuncRef f) is = tt
  value_kind (val.ContRef c) is = tt
  value_kind (val.ExternRef handle) is = names_kind kinds.ExternRef (root_of_handle handle) (any_root Extern (root_of_handle handle) (sym is))
  value_kind (val.AnyRef handle) is = names_kind kinds.AnyRef (root_of_handle handle) (any_root Any (root_of_handle handle) (sym is))
  value_kind (val.ExnRef handle) is = names_kind kinds.ExnRef (root_of_handle handle) (any_root Exn (root_of_handle handle) (sym is))
