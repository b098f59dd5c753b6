-- Which references fit a type, by what a store says of their roots.
use Rattle.std.proofs.Common.{◌≡◌, ℕ, List, Bool, Option, Some, None, refl, sym, ap, ◌∙◌}
use Rattle.std.specs.List.{slice_get}
use Rattle.gc_types.specs.declared.value.HeapType.{HeapType}
use Rattle.gc_types.specs.declared.value.HeapType.TheVariants as heap
use Rattle.gc_types.specs.declared.value.RefType.{RefType}
use Rattle.gc_types.specs.declared.value.ValType.TheVariants as val
use Rattle.gc_types.specs.Declarations.{Declaration}
use Rattle.gc_types.specs.Subtyping.{supertypes_of}
use Rattle.gc_owner.specs.declared.entry.GcClass.{GcClass}
use Rattle.gc_owner.specs.declared.entry.GcClass.TheVariants.{Any, Extern, Exn}
use Rattle.gc_model.specs.Values.{Reference, null, small, at, Value, reference, Object, struct, array, host, exception}
use Rattle.gc_model.specs.Table.{Table}
use Rattle.gc_model.specs.Fits.{matches, is_extern, fits_type, reference_fits, object_fits_any, object_fits_extern, object_fits_exn}
use Rattle.gc_values.specs.declared.root.RootedObject.{RootedObject}
use Rattle.gc_store.specs.Roots.{IsReference, IsObject}
use Rattle.gc_values.specs.OwnTypes.{own_type, own_fits}

-- extern matches extern alone
extern_matches : (supers : List (Option ℕ)) (ty : HeapType) → is_extern ty ≡ matches supers heap.Extern ty
extern_matches supers heap.Any = refl
extern_matches supers heap.Eq = refl
extern_matches supers heap.I31 = refl
extern_matches supers heap.Struct = refl
extern_matches supers heap.Array = refl
extern_matches supers heap.None = refl
extern_matches supers (heap.ConcreteStruct ty) = refl
extern_matches supers (heap.ConcreteArray ty) = refl
extern_matches supers heap.Extern = refl
extern_matches supers heap.NoExtern = refl
extern_matches supers heap.Func = refl
extern_matches supers heap.NoFunc = refl
extern_matches supers (heap.ConcreteFunc ty) = refl
extern_matches supers heap.Exn = refl
extern_matches supers heap.NoExn = refl
extern_matches supers (heap.ConcreteExn ty) = refl
extern_matches supers heap.Cont = refl
extern_matches supers heap.NoCont = refl

module _ {D : Type 0} (t : Table D) (ty : RefType) where
  abbrev fits_as : GcClass → RootedObject → Bool
  fits_as class object = own_fits (supertypes_of t.types) (own_type class object) ty.heap_type

  -- an object fits by its own type
  any_fits_own : (o : Option (Object D)) (object : RootedObject) → IsObject o object → fits_as Any object ≡ object_fits_any t.types ty.heap_type o
  any_fits_own None object is = absurd is
  any_fits_own (Some (struct own vs)) object is = ap (fits_as Any) is
  any_fits_own (Some (array own vs)) object is = ap (fits_as Any) is
  any_fits_own (Some (host v)) object is = ap (fits_as Any) is
  any_fits_own (Some (exception own tag vs)) object is = ap (fits_as Any) is

  extern_fits_own : (o : Option (Object D)) (object : RootedObject) → IsObject o object → fits_as Extern object ≡ object_fits_extern ty.heap_type o
  extern_fits_own None object is = absurd is
  extern_fits_own (Some (struct own vs)) object is = ap (fits_as Extern) is ∙ sym (extern_matches (supertypes_of t.types) ty.heap_type)
  extern_fits_own (Some (array own vs)) object is = ap (fits_as Extern) is ∙ sym (extern_matches (supertypes_of t.types) ty.heap_type)
  extern_fits_own (Some (host v)) object is = ap (fits_as Extern) is ∙ sym (extern_matches (supertypes_of t.types) ty.heap_type)
  extern_fits_own (Some (exception own tag vs)) object is = ap (fits_as Extern) is

  exn_fits_own : (o : Option (Object D)) (object : RootedObject) → IsObject o object → fits_as Exn object ≡ object_fits_exn t.types ty.heap_type o
  exn_fits_own None object is = absurd is
  exn_fits_own (Some (struct own vs)) object is = ap (fits_as Exn) is
  exn_fits_own (Some (array own vs)) object is = ap (fits_as Exn) is
  exn_fits_own (Some (host v)) object is = ap (fits_as Exn) is
  exn_fits_own (Some (exception own tag vs)) object is = ap (fits_as Exn) is

  -- so does what a reference names
  reference_fits_own : (class : GcClass) (r : Reference) (object : RootedObject) → IsReference t r object → fits_as class object ≡ reference_fits t.types t.objects ty class r
  reference_fits_own class null object is = absurd is
  reference_fits_own Any (small n) object is = ap (fits_as Any) is
  reference_fits_own Extern (small n) object is = ap (fits_as Extern) is ∙ sym (extern_matches (supertypes_of t.types) ty.heap_type)
  reference_fits_own Exn (small n) object is = ap (fits_as Exn) is
  reference_fits_own Any (at p) object is = any_fits_own (slice_get t.objects p) object is
  reference_fits_own Extern (at p) object is = extern_fits_own (slice_get t.objects p) object is
  reference_fits_own Exn (at p) object is = exn_fits_own (slice_get t.objects p) object is

  -- so does a value that is a live root, by the types of a store that has those of the table
  pub root_fits : (types : List Declaration) (class : GcClass) (r : Reference) (v : Value) (object : RootedObject) (found : Bool) → types ≡ t.types → IsReference t r object → v ≡ reference class r
      → found ≡ own_fits (supertypes_of types) (own_type class object) ty.heap_type → found ≡ fits_type t.types t.objects (val.Ref ty) v
  root_fits types class r v object found same tells is e =
      e ∙ ap (λ (ts : List Declaration). own_fits (supertypes_of ts) (own_type class object) ty.heap_type) same
      ∙ reference_fits_own class r object tells ∙ ap (fits_type t.types t.objects (val.Ref ty)) (sym is)
