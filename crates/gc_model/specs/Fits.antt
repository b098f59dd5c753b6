-- Which values fit a type: a number by its kind, null by the type's top, an object by its own type (WebAssembly GC proposal).
use Rattle.std.specs.Prelude.{ℕ, zero, suc, ◌==◌, ◌&&◌, ◌||◌, Bool, true, false, List, Option, Some, None, slice_get}
use Rattle.gc_types.specs.declared.value.Func.{Func}
use Rattle.gc_types.specs.declared.value.HeapType.{HeapType}
use Rattle.gc_types.specs.declared.value.HeapType.TheVariants as heap
use Rattle.gc_types.specs.declared.value.HeapTopType.{HeapTopType}
use Rattle.gc_types.specs.declared.value.HeapTopType.TheVariants as top
use Rattle.gc_types.specs.declared.value.RefType.{RefType}
use Rattle.gc_types.specs.declared.value.StorageType.{StorageType}
use Rattle.gc_types.specs.declared.value.StorageType.TheVariants as storage
use Rattle.gc_types.specs.declared.value.ValType.{ValType}
use Rattle.gc_types.specs.declared.value.ValType.TheVariants as val
use Rattle.gc_types.specs.Declarations.{Declaration}
use Rattle.gc_types.specs.HeapTypes.{is_under}
use Rattle.gc_types.specs.Subtyping.{supertypes_of}
use Rattle.gc_types.specs.Values.{heap_top}
use Rattle.gc_owner.specs.declared.entry.GcClass.{GcClass}
use Rattle.gc_owner.specs.declared.entry.GcClass.TheVariants.{Any, Extern, Exn}
use Rattle.gc_model.specs.Values.{Reference, null, small, at, Value, numeric, i32, i64, f32, f64, v128, function, continuation, reference, Object, struct, array, host, exception}

-- Where a climb goes on by a type's supertype: the type is the second, or the climb on from its supertype meets it. A type
-- that isn't declared meets none.
abbrev pub meets_from : (ℕ → Bool) → Option (Option ℕ) → ℕ → ℕ → Bool
meets_from goes_on None a b = false
meets_from goes_on (Some None) a b = a == b
meets_from goes_on (Some (Some p)) a b = (a == b) || goes_on p

-- Whether following supertypes from the first type meets the second, in fewer than so many steps.
abbrev pub climbs : ℕ → List (Option ℕ) → ℕ → ℕ → Bool
climbs zero supers a b = false
climbs (suc n) supers a b = meets_from (λ p. climbs n supers p b) (slice_get supers a) a b

-- Whether the first type is the second or one of its subtypes, by the supertypes of the declared types. A supertype is
-- older than its subtypes, so a climb has no more steps than the first type's index.
abbrev pub is_subtype : List (Option ℕ) → ℕ → ℕ → Bool
is_subtype supers a b = climbs (suc a) supers a b

-- whether a heap type matches another: two concrete ones of a kind by subtyping, any others by the diagram of heap types
abbrev pub matches : List (Option ℕ) → HeapType → HeapType → Bool
matches supers (heap.ConcreteStruct a) (heap.ConcreteStruct b) = is_subtype supers a b
matches supers (heap.ConcreteArray a) (heap.ConcreteArray b) = is_subtype supers a b
matches supers (heap.ConcreteFunc a) (heap.ConcreteFunc b) = is_subtype supers a b
matches supers (heap.ConcreteExn a) (heap.ConcreteExn b) = is_subtype supers a b
matches supers x y = is_under x y

abbrev pub is_extern : HeapType → Bool
is_extern heap.Extern = true
is_extern _ = false

-- an object, as a reference of class Any, fits what its own type matches; structs and arrays have this class
abbrev pub object_fits_any : {D : Type 0} → List Declaration → HeapType → Option (Object D) → Bool
object_fits_any types ty None = false
object_fits_any types ty (Some (struct own values)) = matches (supertypes_of types) (heap.ConcreteStruct own) ty
object_fits_any types ty (Some (array own values)) = matches (supertypes_of types) (heap.ConcreteArray own) ty
object_fits_any types ty (Some (host value)) = false
object_fits_any types ty (Some (exception own tag values)) = false

-- as one of class Extern it fits that type alone, where it is no exception
abbrev pub object_fits_extern : {D : Type 0} → HeapType → Option (Object D) → Bool
object_fits_extern ty None = false
object_fits_extern ty (Some (struct own values)) = is_extern ty
object_fits_extern ty (Some (array own values)) = is_extern ty
object_fits_extern ty (Some (host value)) = is_extern ty
object_fits_extern ty (Some (exception own tag values)) = false

-- as one of class Exn it fits what its own type matches, where it is an exception
abbrev pub object_fits_exn : {D : Type 0} → List Declaration → HeapType → Option (Object D) → Bool
object_fits_exn types ty None = false
object_fits_exn types ty (Some (struct own values)) = false
object_fits_exn types ty (Some (array own values)) = false
object_fits_exn types ty (Some (host value)) = false
object_fits_exn types ty (Some (exception own tag values)) = matches (supertypes_of types) (heap.ConcreteExn own) ty

-- whether references whose types lie under that top have the class
abbrev pub has_class : HeapTopType → GcClass → Bool
has_class top.Any Any = true
has_class top.Extern Extern = true
has_class top.Exn Exn = true
has_class _ _ = false

abbrev pub is_function_top : HeapTopType → Bool
is_function_top top.Func = true
is_function_top _ = false

abbrev pub is_cont_top : HeapTopType → Bool
is_cont_top top.Cont = true
is_cont_top _ = false

abbrev pub is_cont : HeapType → Bool
is_cont heap.Cont = true
is_cont _ = false

-- null fits a type that takes it, in the class of the type's top
abbrev pub null_fits : RefType → GcClass → Bool
null_fits ty class = ty.nullable && has_class (heap_top ty.heap_type) class

abbrev pub reference_fits : {D : Type 0} → List Declaration → List (Object D) → RefType → GcClass → Reference → Bool
reference_fits types objects ty class null = null_fits ty class
reference_fits types objects ty Any (small n) = matches (supertypes_of types) heap.I31 ty.heap_type
reference_fits types objects ty Extern (small n) = is_extern ty.heap_type
reference_fits types objects ty Exn (small n) = false
reference_fits types objects ty Any (at p) = object_fits_any types ty.heap_type (slice_get objects p)
reference_fits types objects ty Extern (at p) = object_fits_extern ty.heap_type (slice_get objects p)
reference_fits types objects ty Exn (at p) = object_fits_exn types ty.heap_type (slice_get objects p)

-- a function fits what its own type matches; none fits a nullable type of functions
abbrev pub function_fits : List Declaration → RefType → Option Func → Bool
function_fits types ty None = ty.nullable && is_function_top (heap_top ty.heap_type)
function_fits types ty (Some f) = matches (supertypes_of types) (heap.ConcreteFunc f.ty) ty.heap_type

-- a continuation fits the type of them alone; none fits a nullable type of continuations
abbrev pub cont_fits : RefType → Option ℕ → Bool
cont_fits ty None = ty.nullable && is_cont_top (heap_top ty.heap_type)
cont_fits ty (Some c) = is_cont ty.heap_type

-- whether a value fits a type, by the declared types and the objects
abbrev pub fits_type : {D : Type 0} → List Declaration → List (Object D) → ValType → Value → Bool
fits_type types objects val.I32 (numeric i32 n) = true
fits_type types objects val.I64 (numeric i64 n) = true
fits_type types objects val.F32 (numeric f32 n) = true
fits_type types objects val.F64 (numeric f64 n) = true
fits_type types objects val.V128 (numeric v128 n) = true
fits_type types objects (val.Ref ty) (function f) = function_fits types ty f
fits_type types objects (val.Ref ty) (continuation c) = cont_fits ty c
fits_type types objects (val.Ref ty) (reference class r) = reference_fits types objects ty class r
fits_type types objects _ _ = false

-- whether it fits a field or an element of that type; small integers are given as 32-bit numbers
abbrev pub fits : {D : Type 0} → List Declaration → List (Object D) → StorageType → Value → Bool
fits types objects storage.I8 v = fits_type types objects val.I32 v
fits types objects storage.I16 v = fits_type types objects val.I32 v
fits types objects (storage.ValType ty) v = fits_type types objects ty v
