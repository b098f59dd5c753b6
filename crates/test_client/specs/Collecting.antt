-- Where a client's collections begin, and what they leave.
use Rattle.std.specs.Prelude.{ℕ, Bool, List}
use Rattle.gc_types.specs.declared.kind.Layouts.{Layouts}
use Rattle.gc_roots.specs.Roots.{Root}
use Rattle.gc_view.specs.Heaps.{HeapView}
use Rattle.gc_heap.specs.Collection.{Start, Stage, CanCollect, Collected}
use Rattle.gc_heap.specs.Run.{start_at}
use Rattle.test_client.specs.declared.collections.Around.{Around}

-- where a collection begins by what stands around a heap
abbrev pub start_around : HeapView → Around → Start
start_around h around = start_at h around.roots.roots around.types.declarations around.hosts.entries

-- a collection may begin there
abbrev pub CanCollectAround : Layouts → HeapView → Around → Type 0
CanCollectAround layouts h around = CanCollect layouts (start_around h around)

-- some collection stands there of which nothing was done
abbrev pub IsCollectionBegun : {H S : Type 0} → (Start → ℕ → Bool → Stage H S → Type 0) → Stage H S → Type 0
IsCollectionBegun {H} {S} under_way at = (s : Start) × ((c : Bool) × under_way s 0 c at)

-- whatever collection stood there of which nothing was done, it left the heap, these roots and these host ids
abbrev pub Finishes : {H S : Type 0} → Layouts → (Start → ℕ → Bool → Stage H S → Type 0) → Stage H S → HeapView → List Root → (ℕ → Bool) → Type 0
Finishes {H} {S} layouts under_way at h roots hosts = (s : Start) (c : Bool) → under_way s 0 c at → Collected layouts s h roots hosts
