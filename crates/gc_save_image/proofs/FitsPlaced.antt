-- What fits a type fits it where each reference leads to the same object at another place.
use Rattle.std.proofs.Common.{◌≡◌, ℕ, true, List, Option, Some, None, refl, sym, ap, ◌∙◌}
use Rattle.std.specs.List.{slice_get}
use Rattle.std.specs.Prelude.{option_map}
use Rattle.gc_types.specs.declared.value.HeapType.{HeapType}
use Rattle.gc_types.specs.declared.value.RefType.{RefType}
use Rattle.gc_types.specs.declared.value.StorageType.{StorageType}
use Rattle.gc_types.specs.declared.value.StorageType.TheVariants as storage
use Rattle.gc_types.specs.declared.value.ValType.{ValType}
use Rattle.gc_types.specs.declared.value.ValType.TheVariants as val
use Rattle.gc_types.specs.Declarations.{Declaration}
use Rattle.gc_owner.specs.declared.entry.GcClass.{GcClass}
use Rattle.gc_owner.specs.declared.entry.GcClass.TheVariants.{Any, Extern, Exn}
use Rattle.gc_model.specs.Fits.{fits, fits_type, object_fits_any, object_fits_exn, object_fits_extern, reference_fits}
use Rattle.gc_model.specs.Values.{Reference, null, small, at, Value, numeric, i32, i64, f32, f64, v128, function, continuation, reference, Object, struct, array, host, exception}
use Rattle.gc_image.specs.Images.{placed_object, placed_reference, placed_value}

module _ (types : List Declaration) (position : ℕ → ℕ) where
  any_placed : (ty : HeapType) (o : Option (Object ℕ)) → object_fits_any types ty (option_map (placed_object position) o) ≡ object_fits_any types ty o
  any_placed ty None = refl
  any_placed ty (Some (struct own values)) = refl
  any_placed ty (Some (array own values)) = refl
  any_placed ty (Some (host n)) = refl
  any_placed ty (Some (exception own tag values)) = refl

  extern_placed : (ty : HeapType) (o : Option (Object ℕ)) → object_fits_extern ty (option_map (placed_object position) o) ≡ object_fits_extern ty o
  extern_placed ty None = refl
  extern_placed ty (Some (struct own values)) = refl
  extern_placed ty (Some (array own values)) = refl
  extern_placed ty (Some (host n)) = refl
  extern_placed ty (Some (exception own tag values)) = refl

  exn_placed : (ty : HeapType) (o : Option (Object ℕ)) → object_fits_exn types ty (option_map (placed_object position) o) ≡ object_fits_exn types ty o
  exn_placed ty None = refl
  exn_placed ty (Some (struct own values)) = refl
  exn_placed ty (Some (array own values)) = refl
  exn_placed ty (Some (host n)) = refl
  exn_placed ty (Some (exception own tag values)) = refl

  -- the objects, and the same by their numbers
  module _ (objects numbered : List (Object ℕ)) where
    -- what a reference names by number stands at its position
    abbrev IsThere : Reference → Type 0
    IsThere r = (n : ℕ) → r ≡ at n → slice_get objects (position n) ≡ option_map (placed_object position) (slice_get numbered n)

    reference_placed : (ty : RefType) (class : GcClass) (r : Reference) → IsThere r → reference_fits types objects ty class (placed_reference position r) ≡ reference_fits types numbered ty class r
    reference_placed ty class null there = refl
    reference_placed ty class (small n) there = refl
    reference_placed ty Any (at n) there = ap (object_fits_any types ty.heap_type) (there n refl) ∙ any_placed ty.heap_type (slice_get numbered n)
    reference_placed ty Extern (at n) there = ap (object_fits_extern ty.heap_type) (there n refl) ∙ extern_placed ty.heap_type (slice_get numbered n)
    reference_placed ty Exn (at n) there = ap (object_fits_exn types ty.heap_type) (there n refl) ∙ exn_placed ty.heap_type (slice_get numbered n)

    abbrev IsValueThere : Value → Type 0
    IsValueThere v = (class : GcClass) (r : Reference) → v ≡ reference class r → IsThere r

    type_placed : (ty : ValType) (v : Value) → IsValueThere v → fits_type types objects ty (placed_value position v) ≡ true → fits_type types numbered ty v ≡ true
    type_placed val.I32 (numeric i32 n) there e = refl
    type_placed val.I64 (numeric i64 n) there e = refl
    type_placed val.F32 (numeric f32 n) there e = refl
    type_placed val.F64 (numeric f64 n) there e = refl
    type_placed val.V128 (numeric v128 n) there e = refl
    type_placed (val.Ref ty) (function f) there e = e
    type_placed (val.Ref ty) (continuation cont) there e = e
    type_placed (val.Ref ty) (reference class r) there e = sym (reference_placed ty class r (there class r refl)) ∙ e
    type_placed _ _ there e = absurd (cc)

    pub fits_placed : (ty : StorageType) (v : Value) → IsValueThere v → fits types objects ty (placed_value position v) ≡ true → fits types numbered ty v ≡ true
    fits_placed storage.I8 v there e = type_placed val.I32 v there e
    fits_placed storage.I16 v there e = type_placed val.I32 v there e
    fits_placed (storage.ValType ty) v there e = type_placed ty v there e
