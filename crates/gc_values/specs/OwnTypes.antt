-- The type that an object has by itself, by what the store says of it.
use Rattle.std.specs.Prelude.{ℕ, Bool, false, List, Option, Some, None}
use Rattle.gc_types.specs.declared.value.HeapType.{HeapType}
use Rattle.gc_types.specs.declared.value.HeapType.TheVariants as heap
use Rattle.gc_owner.specs.declared.entry.GcClass.{GcClass}
use Rattle.gc_owner.specs.declared.entry.GcClass.TheVariants as class
use Rattle.gc_model.specs.Fits.{matches}
use Rattle.gc_values.specs.declared.root.RootedObject.{RootedObject}
use Rattle.gc_values.specs.declared.root.RootedObject.TheVariants as rooted

-- The type of what a reference of that class names; none where it fits no type of the class.
abbrev pub own_type : GcClass → RootedObject → Option HeapType
own_type class.Any (rooted.I31 n) = Some heap.I31
own_type class.Any (rooted.Struct ty) = Some (heap.ConcreteStruct ty)
own_type class.Any (rooted.Array ty n) = Some (heap.ConcreteArray ty)
own_type class.Any rooted.Host = None
own_type class.Any (rooted.Exn ty tag) = None
own_type class.Extern (rooted.I31 n) = Some heap.Extern
own_type class.Extern (rooted.Struct ty) = Some heap.Extern
own_type class.Extern (rooted.Array ty n) = Some heap.Extern
own_type class.Extern rooted.Host = Some heap.Extern
own_type class.Extern (rooted.Exn ty tag) = None
own_type class.Exn (rooted.I31 n) = None
own_type class.Exn (rooted.Struct ty) = None
own_type class.Exn (rooted.Array ty n) = None
own_type class.Exn rooted.Host = None
own_type class.Exn (rooted.Exn ty tag) = Some (heap.ConcreteExn ty)

-- whether what has that type fits another
abbrev pub own_fits : List (Option ℕ) → Option HeapType → HeapType → Bool
own_fits supers None ty = false
own_fits supers (Some own) ty = matches supers own ty
