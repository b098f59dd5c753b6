-- What the small calls of types answer.
use Rattle.gc_types.specs.declared.value.StorageType.{StorageType}
use Rattle.gc_types.specs.declared.value.StorageType.TheVariants as storage
use Rattle.gc_types.specs.declared.value.ValType.{ValType}
use Rattle.gc_types.specs.declared.value.ValType.TheVariants as val
use Rattle.gc_types.specs.declared.value.HeapType.{HeapType}
use Rattle.gc_types.specs.declared.value.HeapType.TheVariants as heap
use Rattle.gc_types.specs.declared.value.HeapTopType.{HeapTopType}
use Rattle.gc_types.specs.declared.value.HeapTopType.TheVariants as top

-- the type of what is read: a packed number is read as 32 bits
abbrev pub unpacked : StorageType → ValType
unpacked storage.I8 = val.I32
unpacked storage.I16 = val.I32
unpacked (storage.ValType ty) = ty

-- the greatest type that the heap type matches
abbrev pub heap_top : HeapType → HeapTopType
heap_top heap.Any = top.Any
heap_top heap.Eq = top.Any
heap_top heap.I31 = top.Any
heap_top heap.Struct = top.Any
heap_top heap.Array = top.Any
heap_top heap.None = top.Any
heap_top (heap.ConcreteStruct ty) = top.Any
heap_top (heap.ConcreteArray ty) = top.Any
heap_top heap.Extern = top.Extern
heap_top heap.NoExtern = top.Extern
heap_top heap.Func = top.Func
heap_top heap.NoFunc = top.Func
heap_top (heap.ConcreteFunc ty) = top.Func
heap_top heap.Exn = top.Exn
heap_top heap.NoExn = top.Exn
heap_top (heap.ConcreteExn ty) = top.Exn
heap_top heap.Cont = top.Cont
heap_top heap.NoCont = top.Cont
