-- A null heap by its fields: what is seen of it, and how it is outside a collection, while its memory
-- is out, and in a collection.
use Rattle.std.specs.Prelude.{◌≡◌, ℕ, zero, suc, ◌+◌, ◌-◌, ◌*◌, ◌%◌, ◌<◌, ◌≤◌, ◌^◌, Bool, true, List, length, Option, Some, None}
use Rattle.std.specs.Ordering.{nat_cmp}
use Rattle.std.specs.FinMap as finite
use Rattle.gc_types.specs.declared.kind.Layouts.TheVariants.{Null}
use Rattle.gc_types.specs.Declarations.{Declaration}
use Rattle.gc_types.specs.Layouts.{round_up}
use Rattle.gc_roots.specs.Roots.{Root}
use Rattle.gc_view.specs.Pages.{page, max_pages}
use Rattle.gc_view.specs.Sizes.{alignment}
use Rattle.gc_view.specs.Heaps.{HeapObject, HeapView, detached_in}
use Rattle.gc_heap.specs.Objects.{held_size}
use Rattle.gc_heap.specs.Collection.{Start, CanCollect}
use Rattle.gc_heap.specs.NullWalk.{bump_first_place, entries, Follow}
use Rattle.gc_heap.specs.declared.null.NullHeap.{NullHeap}

-- what is seen of a memory with so many objects, the last of which ends at the next place
abbrev pub bump_view : List ℕ → ℕ → ℕ → ℕ → HeapView
bump_view bytes next objects scopes = record (detached_in scopes) {
  attached = true;
  content = finite.from_entries (entries objects bytes bump_first_place);
  capacity = length bytes;
  allocated = next - 1;
}

-- The objects follow each other up to the next place, and none ends behind it.
pub record IsBumped (bytes : List ℕ) (next objects : ℕ) : Type 0 where
  pub begun : 0 < next
  pub within : next ≤ length bytes + 1
  pub pages : length bytes % page ≡ 0
  pub bound : length bytes ≤ page * max_pages
  pub follow : Follow objects bytes bump_first_place (round_up next alignment)
  pub ends : (place : ℕ) (o : HeapObject) → finite.find nat_cmp place (entries objects bytes bump_first_place) ≡ Some o → place + held_size Null o ≤ next

-- what is seen of a heap that may have no memory
abbrev pub view_of : Option (List ℕ) → ℕ → ℕ → ℕ → HeapView
view_of None next objects scopes = detached_in scopes
view_of (Some bytes) next objects scopes = bump_view bytes next objects scopes

abbrev pub null_seen : NullHeap → HeapView
null_seen h = view_of h.memory h.next h.objects h.scopes

-- the objects lie in the memory; with no memory there are none
abbrev pub HasMemory : Option (List ℕ) → ℕ → ℕ → Type 0
HasMemory None next objects = (next ≡ 1) × (objects ≡ 0)
HasMemory (Some bytes) next objects = IsBumped bytes next objects

-- A null heap is as it is outside a collection.
pub record IsNullSound (h : NullHeap) : Type 0 where
  pub memory : HasMemory h.memory h.next h.objects
  pub scopes : h.scopes < 2 ^ 64

-- The memory of a null heap is out; it was seen so, with these bytes.
pub record IsNullTaken (h : NullHeap) (view : HeapView) (bytes : List ℕ) : Type 0 where
  pub out : h.memory ≡ None
  pub bumped : IsBumped bytes h.next h.objects
  pub scopes : h.scopes < 2 ^ 64
  pub seen : view ≡ bump_view bytes h.next h.objects h.scopes

-- Nothing was done since a collection began.
pub record IsAtStart (s : Start) (h : NullHeap) (roots : List Root) (types : List Declaration) (hosts : ℕ → Bool) : Type 0 where
  pub sound : IsNullSound h
  pub heap_is : null_seen h ≡ s.heap
  pub roots_are : roots ≡ s.roots
  pub types_are : types ≡ s.types
  pub hosts_are : hosts ≡ s.hosts
  pub can : CanCollect Null s

-- A collection of a null heap has one increment, so it is under way only before that.
abbrev pub IsNullUnderWay : Start → ℕ → NullHeap → List Root → List Declaration → (ℕ → Bool) → Type 0
IsNullUnderWay s zero h roots types hosts = IsAtStart s h roots types hosts
IsNullUnderWay s (suc n) h roots types hosts = ⊥
