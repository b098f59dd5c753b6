-- Which values fit a type, by what a store says of their roots.
use Rattle.std.proofs.Common.{◌≡◌, ℕ, List, Bool, false, Option, Some, None, sym, ap, arith}
use Rattle.std.proofs.lemmas.Option.{none-some}
use Rattle.gc_types.specs.declared.value.RefType.{RefType}
use Rattle.gc_types.specs.declared.value.ValType.{ValType}
use Rattle.gc_types.specs.declared.value.ValType.TheVariants as val
use Rattle.gc_types.specs.Declarations.{Declaration}
use Rattle.gc_types.specs.Subtyping.{supertypes_of}
use Rattle.gc_owner.specs.declared.entry.GcClass.{GcClass}
use Rattle.gc_model.specs.Values.{Value}
use Rattle.gc_model.specs.Table.{Table}
use Rattle.gc_model.specs.Fits.{fits_type}
use Rattle.gc_model.specs.Stores.{StoreView}
use Rattle.gc_values.specs.declared.root.RawValue.{RawValue}
use Rattle.gc_values.specs.declared.root.RawValue.TheVariants as raw
use Rattle.gc_values.specs.declared.root.RootedObject.{RootedObject}
use Rattle.gc_values.specs.declared.root.GcRootIndex.{GcRootIndex}
use Rattle.gc_store.specs.Values.{RawStands}
use Rattle.gc_values.specs.RawValues.{raw_handle}
use Rattle.gc_values.specs.OwnTypes.{own_type, own_fits}
use Rattle.gc_store.proofs.OwnFits.{root_fits}
use Rattle.gc_script.specs.Values.{is_opaque, number_fits, raw_slot, TellsHandle}

-- the handle of a value that is a reference
pub slot_handle : (r : RawValue) (c : GcClass) (h : Option GcRootIndex) → raw_slot r ≡ Some (c, h) → raw_handle r ≡ h
slot_handle (raw.I32 n) c h e = absurd (none-some (c, h) e)
slot_handle (raw.I64 n) c h e = absurd (none-some (c, h) e)
slot_handle (raw.F32 n) c h e = absurd (none-some (c, h) e)
slot_handle (raw.F64 n) c h e = absurd (none-some (c, h) e)
slot_handle (raw.V128 n) c h e = absurd (none-some (c, h) e)
slot_handle (raw.Func f) c h e = absurd (none-some (c, h) e)
slot_handle (raw.Cont cont) c h e = absurd (none-some (c, h) e)
slot_handle (raw.Ref c' h') c h e = let same : h' ≡ h = grind (arith, e) in same

-- so does what is told of the handle of a value
module _ (s : StoreView ℕ) (t : Table ℕ) (ty : RefType) (class : GcClass) where
  pub told_fits : (types : List Declaration) (handle : Option GcRootIndex) (object : RootedObject) (v : Value) (found : Bool) → types ≡ t.types → RawStands s t (raw.Ref class handle) v → TellsHandle s t handle (Some object)
      → found ≡ own_fits (supertypes_of types) (own_type class object) ty.heap_type → found ≡ fits_type t.types t.objects (val.Ref ty) v
  told_fits types None object v found same stands tells e = absurd (none-some object (sym tells))
  told_fits types (Some handle) object v found same stands tells e = root_fits t ty types class stands.root v object found same (tells stands.root stands.named) stands.is e

-- a value that is neither a reference nor opaque is a number, which fits its own type
module _ (s : StoreView ℕ) (t : Table ℕ) where
  pub numbers_fit : (ty : ValType) (r : RawValue) (v : Value) → raw_slot r ≡ None → is_opaque r ≡ false → RawStands s t r v → number_fits ty r ≡ fits_type t.types t.objects ty v
  numbers_fit val.I32 (raw.I32 n) v none plain stands = sym (ap (fits_type t.types t.objects val.I32) stands)
  numbers_fit val.I64 (raw.I32 n) v none plain stands = sym (ap (fits_type t.types t.objects val.I64) stands)
  numbers_fit val.F32 (raw.I32 n) v none plain stands = sym (ap (fits_type t.types t.objects val.F32) stands)
  numbers_fit val.F64 (raw.I32 n) v none plain stands = sym (ap (fits_type t.types t.objects val.F64) stands)
  numbers_fit val.V128 (raw.I32 n) v none plain stands = sym (ap (fits_type t.types t.objects val.V128) stands)
  numbers_fit (val.Ref ref) (raw.I32 n) v none plain stands = sym (ap (fits_type t.types t.objects (val.Ref ref)) stands)
  numbers_fit val.I32 (raw.I64 n) v none plain stands = sym (ap (fits_type t.types t.objects val.I32) stands)
  numbers_fit val.I64 (raw.I64 n) v none plain stands = sym (ap (fits_type t.types t.objects val.I64) stands)
  numbers_fit val.F32 (raw.I64 n) v none plain stands = sym (ap (fits_type t.types t.objects val.F32) stands)
  numbers_fit val.F64 (raw.I64 n) v none plain stands = sym (ap (fits_type t.types t.objects val.F64) stands)
  numbers_fit val.V128 (raw.I64 n) v none plain stands = sym (ap (fits_type t.types t.objects val.V128) stands)
  numbers_fit (val.Ref ref) (raw.I64 n) v none plain stands = sym (ap (fits_type t.types t.objects (val.Ref ref)) stands)
  numbers_fit val.I32 (raw.F32 n) v none plain stands = sym (ap (fits_type t.types t.objects val.I32) stands)
  numbers_fit val.I64 (raw.F32 n) v none plain stands = sym (ap (fits_type t.types t.objects val.I64) stands)
  numbers_fit val.F32 (raw.F32 n) v none plain stands = sym (ap (fits_type t.types t.objects val.F32) stands)
  numbers_fit val.F64 (raw.F32 n) v none plain stands = sym (ap (fits_type t.types t.objects val.F64) stands)
  numbers_fit val.V128 (raw.F32 n) v none plain stands = sym (ap (fits_type t.types t.objects val.V128) stands)
  numbers_fit (val.Ref ref) (raw.F32 n) v none plain stands = sym (ap (fits_type t.types t.objects (val.Ref ref)) stands)
  numbers_fit val.I32 (raw.F64 n) v none plain stands = sym (ap (fits_type t.types t.objects val.I32) stands)
  numbers_fit val.I64 (raw.F64 n) v none plain stands = sym (ap (fits_type t.types t.objects val.I64) stands)
  numbers_fit val.F32 (raw.F64 n) v none plain stands = sym (ap (fits_type t.types t.objects val.F32) stands)
  numbers_fit val.F64 (raw.F64 n) v none plain stands = sym (ap (fits_type t.types t.objects val.F64) stands)
  numbers_fit val.V128 (raw.F64 n) v none plain stands = sym (ap (fits_type t.types t.objects val.V128) stands)
  numbers_fit (val.Ref ref) (raw.F64 n) v none plain stands = sym (ap (fits_type t.types t.objects (val.Ref ref)) stands)
  numbers_fit val.I32 (raw.V128 n) v none plain stands = sym (ap (fits_type t.types t.objects val.I32) stands)
  numbers_fit val.I64 (raw.V128 n) v none plain stands = sym (ap (fits_type t.types t.objects val.I64) stands)
  numbers_fit val.F32 (raw.V128 n) v none plain stands = sym (ap (fits_type t.types t.objects val.F32) stands)
  numbers_fit val.F64 (raw.V128 n) v none plain stands = sym (ap (fits_type t.types t.objects val.F64) stands)
  numbers_fit val.V128 (raw.V128 n) v none plain stands = sym (ap (fits_type t.types t.objects val.V128) stands)
  numbers_fit (val.Ref ref) (raw.V128 n) v none plain stands = sym (ap (fits_type t.types t.objects (val.Ref ref)) stands)
  numbers_fit ty (raw.Func f) v none plain stands = absurd (cc plain)
  numbers_fit ty (raw.Cont cont) v none plain stands = absurd (cc plain)
  numbers_fit ty (raw.Ref c h) v none plain stands = absurd (none-some (c, h) (sym none))
