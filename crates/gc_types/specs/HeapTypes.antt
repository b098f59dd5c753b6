-- What a heap type names, and the diagram of heap types as a table that the code follows. `Subtyping`
-- decides what matches.
use Rattle.std.specs.Prelude.{ℕ, Bool, true, false, Option, Some, None}
use Rattle.gc_types.specs.declared.kind.TypeKind.{TypeKind}
use Rattle.gc_types.specs.declared.kind.TypeKind.TheVariants as kinds
use Rattle.gc_types.specs.declared.value.HeapType.{HeapType}
use Rattle.gc_types.specs.declared.value.HeapType.TheVariants as heap

-- the kind and the index of the declared type that a concrete heap type names
abbrev pub concrete : HeapType → Option (TypeKind × ℕ)
concrete (heap.ConcreteStruct t) = Some (kinds.Struct, t)
concrete (heap.ConcreteArray t) = Some (kinds.Array, t)
concrete (heap.ConcreteFunc t) = Some (kinds.Func, t)
concrete (heap.ConcreteExn t) = Some (kinds.Exn, t)
concrete _ = None

-- whether a heap type matches `Eq`
abbrev pub is_under_eq : HeapType → Bool
is_under_eq heap.Eq = true
is_under_eq heap.I31 = true
is_under_eq heap.Struct = true
is_under_eq (heap.ConcreteStruct t) = true
is_under_eq heap.Array = true
is_under_eq (heap.ConcreteArray t) = true
is_under_eq heap.None = true
is_under_eq _ = false

-- whether the first heap type matches the second, where they aren't both concrete
abbrev pub is_under : HeapType → HeapType → Bool
is_under heap.Any heap.Any = true
is_under x heap.Any = is_under_eq x
is_under x heap.Eq = is_under_eq x
is_under heap.I31 heap.I31 = true
is_under heap.None heap.I31 = true
is_under heap.Struct heap.Struct = true
is_under (heap.ConcreteStruct t) heap.Struct = true
is_under heap.None heap.Struct = true
is_under heap.Array heap.Array = true
is_under (heap.ConcreteArray t) heap.Array = true
is_under heap.None heap.Array = true
is_under heap.None heap.None = true
is_under heap.None (heap.ConcreteStruct t) = true
is_under heap.None (heap.ConcreteArray t) = true
is_under heap.Extern heap.Extern = true
is_under heap.NoExtern heap.Extern = true
is_under heap.NoExtern heap.NoExtern = true
is_under heap.Func heap.Func = true
is_under (heap.ConcreteFunc t) heap.Func = true
is_under heap.NoFunc heap.Func = true
is_under heap.NoFunc heap.NoFunc = true
is_under heap.NoFunc (heap.ConcreteFunc t) = true
is_under heap.Exn heap.Exn = true
is_under (heap.ConcreteExn t) heap.Exn = true
is_under heap.NoExn heap.Exn = true
is_under heap.NoExn heap.NoExn = true
is_under heap.NoExn (heap.ConcreteExn t) = true
is_under heap.Cont heap.Cont = true
is_under heap.NoCont heap.Cont = true
is_under heap.NoCont heap.NoCont = true
is_under _ _ = false
