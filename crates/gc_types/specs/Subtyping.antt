-- Subtypes of declared types, and which types match which (WebAssembly GC proposal).
use Rattle.std.specs.Prelude.{ℕ, ◌≡◌, ◌<◌, IsTrue, List, Option, Some, map, length, slice_get}
use Rattle.gc_types.specs.Declarations.{Declaration}
use Rattle.gc_types.specs.declared.value.Mutability.TheVariants.{Var}
use Rattle.gc_types.specs.declared.value.HeapType.{HeapType}
use Rattle.gc_types.specs.declared.value.HeapType.TheVariants as heap
use Rattle.gc_types.specs.declared.value.RefType.{RefType}
use Rattle.gc_types.specs.declared.value.ValType.{ValType}
use Rattle.gc_types.specs.declared.value.ValType.TheVariants as val
use Rattle.gc_types.specs.declared.value.StorageType.{StorageType}
use Rattle.gc_types.specs.declared.value.StorageType.TheVariants as storage
use Rattle.gc_types.specs.declared.value.FieldType.{FieldType}

-- the supertypes of the declared types, in order
abbrev pub supertypes_of : List Declaration → List (Option ℕ)
supertypes_of types = map (λ d. d.supertype) types

-- Following supertypes from the first type meets the second. Both are declared.
pub data Meets (supers : List (Option ℕ)) : ℕ → ℕ → Type 0 where
  here : {a : ℕ} → a < length supers → Meets supers a a
  up : {a p b : ℕ} → slice_get supers a ≡ Some (Some p) → Meets supers p b → Meets supers a b

-- One arrow of the diagram of heap types. Between concrete types it is subtyping.
pub data Arrow (supers : List (Option ℕ)) : HeapType → HeapType → Type 0 where
  none_i31 : Arrow supers heap.None heap.I31
  none_struct : Arrow supers heap.None heap.Struct
  none_array : Arrow supers heap.None heap.Array
  none_concrete_struct : {t : ℕ} → Arrow supers heap.None (heap.ConcreteStruct t)
  none_concrete_array : {t : ℕ} → Arrow supers heap.None (heap.ConcreteArray t)
  concrete_struct : {a b : ℕ} → Meets supers a b → Arrow supers (heap.ConcreteStruct a) (heap.ConcreteStruct b)
  concrete_struct_struct : {t : ℕ} → Arrow supers (heap.ConcreteStruct t) heap.Struct
  concrete_array : {a b : ℕ} → Meets supers a b → Arrow supers (heap.ConcreteArray a) (heap.ConcreteArray b)
  concrete_array_array : {t : ℕ} → Arrow supers (heap.ConcreteArray t) heap.Array
  i31_eq : Arrow supers heap.I31 heap.Eq
  struct_eq : Arrow supers heap.Struct heap.Eq
  array_eq : Arrow supers heap.Array heap.Eq
  eq_any : Arrow supers heap.Eq heap.Any
  no_extern_extern : Arrow supers heap.NoExtern heap.Extern
  no_func_func : Arrow supers heap.NoFunc heap.Func
  no_func_concrete_func : {t : ℕ} → Arrow supers heap.NoFunc (heap.ConcreteFunc t)
  concrete_func : {a b : ℕ} → Meets supers a b → Arrow supers (heap.ConcreteFunc a) (heap.ConcreteFunc b)
  concrete_func_func : {t : ℕ} → Arrow supers (heap.ConcreteFunc t) heap.Func
  no_exn_exn : Arrow supers heap.NoExn heap.Exn
  no_exn_concrete_exn : {t : ℕ} → Arrow supers heap.NoExn (heap.ConcreteExn t)
  concrete_exn : {a b : ℕ} → Meets supers a b → Arrow supers (heap.ConcreteExn a) (heap.ConcreteExn b)
  concrete_exn_exn : {t : ℕ} → Arrow supers (heap.ConcreteExn t) heap.Exn
  no_cont_cont : Arrow supers heap.NoCont heap.Cont

-- a heap type that names no declared type
abbrev pub IsAbstract : HeapType → Type 0
IsAbstract (heap.ConcreteStruct t) = ⊥
IsAbstract (heap.ConcreteArray t) = ⊥
IsAbstract (heap.ConcreteFunc t) = ⊥
IsAbstract (heap.ConcreteExn t) = ⊥
IsAbstract _ = Unit {0}

-- Heap types match along the arrows, and an abstract one matches itself. A concrete one matches
-- itself where its type is declared, as a declared type is a subtype of itself.
pub data MatchesHeap (supers : List (Option ℕ)) : HeapType → HeapType → Type 0 where
  same : {x : HeapType} → IsAbstract x → MatchesHeap supers x x
  along : {x y : HeapType} → Arrow supers x y → MatchesHeap supers x y
  through : {x y z : HeapType} → Arrow supers x y → MatchesHeap supers y z → MatchesHeap supers x z

-- a reference type matches where its heap type does, and it isn't nullable or the other is
pub record MatchesRef (supers : List (Option ℕ)) (x y : RefType) : Type 0 where
  pub heap_type : MatchesHeap supers x.heap_type y.heap_type
  pub nullable : IsTrue x.nullable → IsTrue y.nullable

-- a value type matches an equal number type, or by the rule for references
abbrev pub MatchesVal : List (Option ℕ) → ValType → ValType → Type 0
MatchesVal supers (val.Ref x) (val.Ref y) = MatchesRef supers x y
MatchesVal supers x y = x ≡ y

-- a packed type matches itself alone
abbrev pub MatchesStorage : List (Option ℕ) → StorageType → StorageType → Type 0
MatchesStorage supers (storage.ValType x) (storage.ValType y) = MatchesVal supers x y
MatchesStorage supers x y = x ≡ y

-- what is read of a field matches, and what may be written to it does both ways
pub record MatchesField (supers : List (Option ℕ)) (x y : FieldType) : Type 0 where
  pub mutability : x.mutability ≡ y.mutability
  pub read : MatchesStorage supers x.element_type y.element_type
  pub written : x.mutability ≡ Var → MatchesStorage supers y.element_type x.element_type

-- where a type names a declared one, its index is declared
abbrev pub IsDeclaredHeap : List (Option ℕ) → HeapType → Type 0
IsDeclaredHeap supers (heap.ConcreteStruct t) = t < length supers
IsDeclaredHeap supers (heap.ConcreteArray t) = t < length supers
IsDeclaredHeap supers (heap.ConcreteFunc t) = t < length supers
IsDeclaredHeap supers (heap.ConcreteExn t) = t < length supers
IsDeclaredHeap supers _ = Unit {0}

abbrev pub IsDeclaredVal : List (Option ℕ) → ValType → Type 0
IsDeclaredVal supers (val.Ref ty) = IsDeclaredHeap supers ty.heap_type
IsDeclaredVal supers _ = Unit {0}

abbrev pub IsDeclaredStorage : List (Option ℕ) → StorageType → Type 0
IsDeclaredStorage supers (storage.ValType ty) = IsDeclaredVal supers ty
IsDeclaredStorage supers _ = Unit {0}
