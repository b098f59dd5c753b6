-- Each of the relations is reflexive and transitive.
use Rattle.std.proofs.Common.{ℕ, List, Option, refl, sym, ◌∙◌, subst}
use Rattle.gc_types.specs.declared.value.HeapType.{HeapType}
use Rattle.gc_types.specs.declared.value.HeapType.TheVariants as heap
use Rattle.gc_types.specs.declared.value.RefType.{RefType}
use Rattle.gc_types.specs.declared.value.ValType.{ValType}
use Rattle.gc_types.specs.declared.value.ValType.TheVariants as val
use Rattle.gc_types.specs.declared.value.StorageType.{StorageType}
use Rattle.gc_types.specs.declared.value.StorageType.TheVariants as storage
use Rattle.gc_types.specs.declared.value.FieldType.{FieldType}
use Rattle.gc_types.specs.Subtyping.{here, MatchesHeap, same, along, through, concrete_struct, concrete_array, concrete_func, concrete_exn, MatchesRef, MatchesVal, MatchesStorage, MatchesField, IsDeclaredHeap, IsDeclaredVal, IsDeclaredStorage}

pub heap_reflexive : (supers : List (Option ℕ)) (x : HeapType) → IsDeclaredHeap supers x → MatchesHeap supers x x
heap_reflexive supers (heap.ConcreteStruct t) h = along (concrete_struct (here h))
heap_reflexive supers (heap.ConcreteArray t) h = along (concrete_array (here h))
heap_reflexive supers (heap.ConcreteFunc t) h = along (concrete_func (here h))
heap_reflexive supers (heap.ConcreteExn t) h = along (concrete_exn (here h))
heap_reflexive supers _ h = same tt

heap_chain : (supers : List (Option ℕ)) {x y z : HeapType} → MatchesHeap supers x y → MatchesHeap supers y z → MatchesHeap supers x z
heap_chain supers (same abs) n = n
heap_chain supers (along a) n = through a n
heap_chain supers (through a m) n = through a (heap_chain supers m n)

pub heap_transitive : (supers : List (Option ℕ)) (x y z : HeapType) → MatchesHeap supers x y → MatchesHeap supers y z → MatchesHeap supers x z
heap_transitive supers x y z m n = heap_chain supers m n

pub ref_reflexive : (supers : List (Option ℕ)) (x : RefType) → IsDeclaredHeap supers x.heap_type → MatchesRef supers x x
ref_reflexive supers x h = record { heap_type = heap_reflexive supers x.heap_type h; nullable = λ n. n }

pub ref_transitive : (supers : List (Option ℕ)) (x y z : RefType) → MatchesRef supers x y → MatchesRef supers y z → MatchesRef supers x z
ref_transitive supers x y z m n = record {
  heap_type = heap_chain supers m.heap_type n.heap_type;
  nullable = λ h. n.nullable (m.nullable h);
}

pub val_reflexive : (supers : List (Option ℕ)) (x : ValType) → IsDeclaredVal supers x → MatchesVal supers x x
val_reflexive supers (val.Ref ty) h = ref_reflexive supers ty h
val_reflexive supers _ h = refl

pub val_transitive : (supers : List (Option ℕ)) (x y z : ValType) → MatchesVal supers x y → MatchesVal supers y z → MatchesVal supers x z
val_transitive supers (val.Ref x) (val.Ref y) (val.Ref z) m n = ref_transitive supers x y z m n
val_transitive supers (val.Ref x) _ _ m n = cc
val_transitive supers x y z m n = subst (λ (w : ValType). MatchesVal supers w z) (sym m) n

pub storage_reflexive : (supers : List (Option ℕ)) (x : StorageType) → IsDeclaredStorage supers x → MatchesStorage supers x x
storage_reflexive supers (storage.ValType ty) h = val_reflexive supers ty h
storage_reflexive supers _ h = refl

pub storage_transitive : (supers : List (Option ℕ)) (x y z : StorageType) → MatchesStorage supers x y → MatchesStorage supers y z → MatchesStorage supers x z
storage_transitive supers (storage.ValType x) (storage.ValType y) (storage.ValType z) m n = val_transitive supers x y z m n
storage_transitive supers (storage.ValType x) _ _ m n = cc
storage_transitive supers x y z m n = subst (λ (w : StorageType). MatchesStorage supers w z) (sym m) n

pub field_reflexive : (supers : List (Option ℕ)) (x : FieldType) → IsDeclaredStorage supers x.element_type → MatchesField supers x x
field_reflexive supers x h =
    let own = storage_reflexive supers x.element_type h in
    record { mutability = refl; read = own; written = λ v. own }

pub field_transitive : (supers : List (Option ℕ)) (x y z : FieldType) → MatchesField supers x y → MatchesField supers y z → MatchesField supers x z
field_transitive supers x y z m n = record {
  mutability = m.mutability ∙ n.mutability;
  read = storage_transitive supers x.element_type y.element_type z.element_type m.read n.read;
  written = λ v. storage_transitive supers z.element_type y.element_type x.element_type (n.written (sym m.mutability ∙ v)) (m.written v);
}
