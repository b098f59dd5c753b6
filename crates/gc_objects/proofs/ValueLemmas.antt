-- The values that are given, as the store takes them.
use Rattle.std.proofs.Common.{◌≡◌, Bool, true, Some, None, Result, Ok, Err, sym, ap, ◌∙◌, refl, subst, arith}
use Rattle.std.specs.Prelude.{is_ok}
use Rattle.std.specs.Int.{w32, w64}
use Rattle.std.proofs.lemmas.Option.{none-some}
use Rattle.gc_model.specs.Values.{Reference, null, Value, numeric, i32, i64, f32, f64, v128, function, continuation, reference, number_bits}
use Rattle.gc_types.specs.declared.value.ValType.{ValType}
use Rattle.gc_model.specs.Fits.{fits_type}
use Rattle.gc_model.specs.Table.{Table}
use Rattle.gc_model.specs.Stores.{StoreView}
use Rattle.gc_values.specs.declared.root.GcRootIndex.{GcRootIndex}
use Rattle.gc_values.specs.declared.root.RawValue.{RawValue}
use Rattle.gc_values.specs.declared.root.RawValue.TheVariants as raw
use Rattle.gc_values.specs.declared.root.RootFault.{RootFault}
use Rattle.gc_values.specs.declared.root.RootFault.TheVariants as fault
use Rattle.gc_values.specs.declared.root.RootedObject.{RootedObject}
use Rattle.gc_store.specs.Roots.{is_of_store, NamesReference, NamesNothing, IsReference}
use Rattle.gc_store.specs.Values.{RawStands}
use Rattle.gc_values.specs.RawValues.{raw_handle}
use Rattle.gc_objects.specs.declared.val.Val.{Val}
use Rattle.gc_objects.specs.Answered.{Answers, ChecksHandle, RawFitsType}
use Rattle.gc_objects.specs.Given.{raw_of, named_root, is_own_root, IsLiveOrGone}
use Rattle.gc_objects.proofs.Naming.{other_names_nothing}

module _ {D : Type 0} (s : StoreView D) (t : Table D) where
  -- a value without a handle stands for one of the table
  plain_stands : (v : RawValue) → raw_handle v ≡ None → (x : Value) × RawStands s t v x
  plain_stands (raw.I32 n) none = (numeric i32 (number_bits w32 n), refl)
  plain_stands (raw.I64 n) none = (numeric i64 (number_bits w64 n), refl)
  plain_stands (raw.F32 n) none = (numeric f32 n, refl)
  plain_stands (raw.F64 n) none = (numeric f64 n, refl)
  plain_stands (raw.V128 n) none = (numeric v128 n, refl)
  plain_stands (raw.Func f) none = (function f, refl)
  plain_stands (raw.Cont c) none = (continuation c, refl)
  plain_stands (raw.Ref class None) none = (reference class null, refl)
  plain_stands (raw.Ref class (Some handle)) none = absurd (none-some handle (sym none))

  -- so does one whose handle is live
  root_stands : (v : RawValue) (handle : GcRootIndex) → raw_handle v ≡ Some handle → (r : Reference) → NamesReference s t handle r → (x : Value) × RawStands s t v x
  root_stands (raw.I32 n) handle is r named = absurd (none-some handle is)
  root_stands (raw.I64 n) handle is r named = absurd (none-some handle is)
  root_stands (raw.F32 n) handle is r named = absurd (none-some handle is)
  root_stands (raw.F64 n) handle is r named = absurd (none-some handle is)
  root_stands (raw.V128 n) handle is r named = absurd (none-some handle is)
  root_stands (raw.Func f) handle is r named = absurd (none-some handle is)
  root_stands (raw.Cont c) handle is r named = absurd (none-some handle is)
  root_stands (raw.Ref class None) handle is r named = absurd (none-some handle is)
  root_stands (raw.Ref class (Some h)) handle is r named =
      let same : h ≡ handle = grind (arith, is) in
      (reference class r, record { root = r; named = subst (λ (x : GcRootIndex). NamesReference s t x r) (sym same) named; is = refl })

  -- a value without a handle, and one whose handle the store answered
  pub plain_checked : (v : RawValue) → raw_handle v ≡ None → ChecksHandle s t v (Ok tt)
  plain_checked v none = (ap (is_own_root s) none, plain_stands v none)

  pub handle_found : (v : RawValue) (handle : GcRootIndex) → raw_handle v ≡ Some handle → (x : RootedObject) → Answers s t (is_of_store s handle) handle (IsReference t) (Ok x) → ChecksHandle s t v (Ok tt)
  handle_found v handle is x answers = (ap (is_own_root s) is ∙ answers.0, root_stands v handle is answers.1.0 answers.1.1.0)

  pub handle_refused : (v : RawValue) (handle : GcRootIndex) → raw_handle v ≡ Some handle → (why : RootFault) → Answers s t (is_of_store s handle) handle (IsReference t) (Err why) → ChecksHandle s t v (Err why)
  handle_refused v handle is fault.WrongStore answers = ap (is_own_root s) is ∙ answers
  handle_refused v handle is fault.Unrooted answers = (ap (is_own_root s) is ∙ answers.0, (handle, (is, answers.1)))
  handle_refused v handle is fault.RootsFull answers = absurd answers
  handle_refused v handle is fault.Memory answers = absurd answers

  pub live_plain : (v : Val) → named_root v ≡ None → IsLiveOrGone s t v true
  live_plain v none = plain_stands (raw_of v) none

  gone_nothing : (handle : GcRootIndex) (why : RootFault) → Answers s t (is_of_store s handle) handle (IsReference t) (Err why) → NamesNothing s t handle
  gone_nothing handle fault.WrongStore answers = other_names_nothing s t handle answers
  gone_nothing handle fault.Unrooted answers = answers.1
  gone_nothing handle fault.RootsFull answers = absurd answers
  gone_nothing handle fault.Memory answers = absurd answers

  by_result : (v : Val) (handle : GcRootIndex) → named_root v ≡ Some handle → (result : Result RootedObject RootFault) → Answers s t (is_of_store s handle) handle (IsReference t) result → IsLiveOrGone s t v (is_ok result)
  by_result v handle is (Ok x) answers = root_stands (raw_of v) handle is answers.1.0 answers.1.1.0
  by_result v handle is (Err why) answers = (handle, (is, gone_nothing handle why answers))

  -- a value's root is live where the store says what it is
  pub live_root : (v : Val) (handle : GcRootIndex) → named_root v ≡ Some handle → (result : Result RootedObject RootFault) (b : Bool) → b ≡ is_ok result → Answers s t (is_of_store s handle) handle (IsReference t) result → IsLiveOrGone s t v b
  live_root v handle is result b e answers = subst (IsLiveOrGone s t v) (sym e) (by_result v handle is result answers)

-- whether a value fits a type is what is asked of the one that it stands for
pub fits_given : {D : Type 0} (s : StoreView D) (t : Table D) (v : RawValue) (ty : ValType) (b : Bool) → ChecksHandle s t v (Ok tt)
    → ((x : Value) → RawStands s t v x → b ≡ fits_type t.types t.objects ty x) → RawFitsType s t ty v (Ok b)
fits_given s t v ty b checks answers = (checks.0, (checks.1.0, (checks.1.1, answers checks.1.0 checks.1.1)))
