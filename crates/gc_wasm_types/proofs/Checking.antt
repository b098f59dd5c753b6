-- What the check of a value finds, by what is found of the value that is asked about.
use Rattle.std.proofs.Common.{◌≡◌, Bool, true, Option, Some, None, Result, Ok, Err, sym, ap, ◌∙◌, refl, subst, arith}
use Rattle.std.proofs.lemmas.Option.{none-some}
use Rattle.gc_types.specs.declared.value.ValType.{ValType}
use Rattle.gc_owner.specs.declared.entry.GcClass.{GcClass}
use Rattle.gc_model.specs.Fits.{fits_type}
use Rattle.gc_model.specs.Stores.{StoreView}
use Rattle.gc_model.specs.Table.{Table}
use Rattle.gc_model.specs.Values.{null}
use Rattle.gc_values.specs.declared.root.GcRootIndex.{GcRootIndex}
use Rattle.gc_values.specs.declared.root.RawValue.TheVariants as raw
use Rattle.gc_values.specs.declared.root.RootFault.{RootFault}
use Rattle.gc_values.specs.declared.root.RootFault.TheVariants as root_fault
use Rattle.gc_store.specs.Roots.{NamesNothing}
use Rattle.gc_objects.specs.declared.faults.AccessFault.{AccessFault}
use Rattle.gc_objects.specs.Answered.{RawFitsType}
use Rattle.gc_objects.specs.Faults.{accessed}
use Rattle.gc_wasm_types.specs.Values.{WasmValue, absent, handle, or_absent, is_own_reference, FitsAs, ChecksReference, ChecksType}

module _ {D : Type 0} (s : StoreView D) (t : Table D) (ty : ValType) where
  module _ (class : GcClass) where
    fits_as : (root : Option GcRootIndex) (b : Bool) → RawFitsType s t ty (raw.Ref class root) (Ok b) → (is_own_reference s (or_absent handle root) ≡ true) × FitsAs s t class (or_absent handle root) ty b
    fits_as None b is = (is.0, (null, (refl, sym (is.1.1.1 ∙ ap (fits_type t.types t.objects ty) is.1.1.0))))
    fits_as (Some h) b is =
        let stands = is.1.1.0 in
        (is.0, (stands.root, (stands.named, sym (is.1.1.1 ∙ ap (fits_type t.types t.objects ty) stands.is))))

    refused_as : (root : Option GcRootIndex) (why : RootFault) → RawFitsType s t ty (raw.Ref class root) (Err why) → ChecksReference s t class (or_absent handle root) ty (Err (accessed why))
    refused_as None root_fault.WrongStore is = is
    refused_as None root_fault.Unrooted is = absurd (none-some is.1.0 is.1.1.0)
    refused_as None root_fault.RootsFull is = absurd is
    refused_as None root_fault.Memory is = absurd is
    refused_as (Some h) root_fault.WrongStore is = is
    refused_as (Some h) root_fault.Unrooted is =
        let same : is.1.0 ≡ h = grind (arith, is.1.1.0) in
        (is.0, subst (λ (x : GcRootIndex). NamesNothing s t x) same is.1.1.1)
    refused_as (Some h) root_fault.RootsFull is = absurd is
    refused_as (Some h) root_fault.Memory is = absurd is

    module _ (root : Option GcRootIndex) where
      pub fit_told : (b answer : Bool) → b ≡ answer → RawFitsType s t ty (raw.Ref class root) (Ok b) → (is_own_reference s (or_absent handle root) ≡ true) × FitsAs s t class (or_absent handle root) ty answer
      fit_told b answer e is = subst (λ (q : Bool). (is_own_reference s (or_absent handle root) ≡ true) × FitsAs s t class (or_absent handle root) ty q) e (fits_as root b is)

      pub refusal_told : (why : RootFault) (answer : AccessFault) → answer ≡ accessed why → RawFitsType s t ty (raw.Ref class root) (Err why) → ChecksReference s t class (or_absent handle root) ty (Err answer)
      refusal_told why answer e is = subst (λ (f : AccessFault). ChecksReference s t class (or_absent handle root) ty (Err f)) (sym e) (refused_as root why is)

-- so of a value that is null or a handle
module _ {D : Type 0} (s : StoreView D) (t : Table D) (ty : ValType) (given class : GcClass) (class_is : given ≡ class) (v : WasmValue) (result : Result (Unit {0}) AccessFault) where
  pub checks_handle : (root h : GcRootIndex) → root ≡ h → v ≡ handle h → ChecksReference s t given (handle root) ty result → ChecksType s t class v ty result
  checks_handle root h same is told =
      subst (λ (x : WasmValue). ChecksType s t class x ty result) (sym is)
      (subst (λ (x : GcRootIndex). ChecksReference s t class (handle x) ty result) same
      (subst (λ (k : GcClass). ChecksReference s t k (handle root) ty result) class_is told))

  pub checks_absent : v ≡ absent → ChecksReference s t given absent ty result → ChecksType s t class v ty result
  checks_absent is told =
      subst (λ (x : WasmValue). ChecksType s t class x ty result) (sym is)
      (subst (λ (k : GcClass). ChecksReference s t k absent ty result) class_is told)
