-- What contracts see of a heap with a host table.
use Rattle.std.specs.Prelude.{◌≡◌, ◌%◌, ℕ, true, None, Option, Some}
use Rattle.std.specs.Ordering.{nat_cmp}
use Rattle.std.specs.FinMap.{FinMap, get, len}
use Rattle.gc_types.specs.declared.kind.VMGcKind.{VMGcKind}
use Rattle.gc_types.specs.declared.kind.VMGcKind.TheVariants.{AnyRef, ArrayRef, EqRef, ExnRef, ExternRef, StructRef}
use Rattle.gc_view.specs.Heaps.{HeapObject, HeapView}
use Rattle.gc_heap.specs.Content.{total}
use Rattle.gc_heap.specs.Objects.{host_id}
use Rattle.gc_heap.specs.Collection.{has_host}

-- a heap, and the host values by their ids
pub record GcStoreView (D : Type 0) : Type 0 where
  pub heap : HeapView
  pub hosts : FinMap nat_cmp D

-- 1 for an external object, 0 for any other
abbrev pub one_if_external : VMGcKind → ℕ
one_if_external ExternRef = 1
one_if_external AnyRef = 0
one_if_external EqRef = 0
one_if_external StructRef = 0
one_if_external ArrayRef = 0
one_if_external ExnRef = 0

-- how many external objects there are
abbrev pub external_count : FinMap nat_cmp HeapObject → ℕ
external_count content = total (λ (o : HeapObject). one_if_external o.kind) content

-- Each external object has a host value of its own, and each host value is that of an external object: no
-- two objects share one, and there are as many values as objects.
pub record PairsHosts {D : Type 0} (content : FinMap nat_cmp HeapObject) (hosts : FinMap nat_cmp D) : Type 0 where
  pub there : (place : ℕ) (o : HeapObject) → get content place ≡ Some o → o.kind ≡ ExternRef → has_host hosts (host_id o) ≡ true
  pub own : (p q : ℕ) (o o' : HeapObject) → get content p ≡ Some o → get content q ≡ Some o' → o.kind ≡ ExternRef → o'.kind ≡ ExternRef
      → host_id o ≡ host_id o' → p ≡ q
  pub as_many : len hosts ≡ external_count content

-- A heap has its memory, and its external objects have their host values.
pub record IsStored {D : Type 0} (heap_is_sound : Type 0) (s : GcStoreView D) : Type 0 where
  pub sound : heap_is_sound
  pub attached : s.heap.attached ≡ true
  pub paired : PairsHosts s.heap.content s.hosts

-- a slot holds no object: null or a 31-bit number
abbrev pub HoldsNoObject : Option ℕ → Type 0
HoldsNoObject None = Unit {0}
HoldsNoObject (Some word) = word % 2 ≡ 1
