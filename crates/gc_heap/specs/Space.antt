-- The bytes that the objects of a heap take, and where they lie.
use Rattle.std.specs.Prelude.{IsSome, IsTrue, Some, if◌then◌else◌, map, sum, ℕ, ◌%◌, ◌*◌, ◌+◌, ◌/◌, ◌<◌, ◌↔◌, ◌≡◌, ◌≤◌, ◌⊎◌}
use Rattle.std.specs.Ordering.{nat_cmp}
use Rattle.std.specs.FinMap as finite
use Rattle.std.specs.FinSet as finset
use Rattle.gc_types.specs.declared.kind.VMGcKind.TheVariants.{AnyRef, ArrayRef, EqRef, ExnRef, ExternRef, StructRef}
use Rattle.gc_types.specs.declared.kind.Layouts.TheVariants.{Copying, Counting}
use Rattle.gc_types.specs.declared.kind.Layouts.{Layouts}
use Rattle.gc_types.specs.declared.kind.VMGcKind.{VMGcKind}
use Rattle.gc_types.specs.Layouts.{array_base, round_up}
use Rattle.gc_view.specs.Heaps.{HeapObject, HeapView, no_counts}
use Rattle.gc_view.specs.Sizes.{alignment}
use Rattle.gc_heap.specs.References.{IsTraceWord}
use Rattle.gc_heap.specs.Extents.{array_length, held_size}

-- the sum of a number of each object
abbrev pub total : (HeapObject → ℕ) → finite.FinMap nat_cmp HeapObject → ℕ
total f content = sum (map (λ (e : ℕ × HeapObject). f e.1) (finite.entries content))

-- the bytes that an object takes, to the next multiple of 16
abbrev pub block_size : Layouts → HeapObject → ℕ
block_size layouts o = round_up (held_size layouts o) alignment

-- an object is held at that place
abbrev pub IsHeld : HeapView → ℕ → Type 0
IsHeld h place = (o : HeapObject) × (finite.get h.content place ≡ Some o)

-- The trace word of a copying heap's object names nothing outside it: the words of its bitmap lie
-- inside, and so do an array's elements where it says that they are references.
abbrev pub TracesInside : HeapObject → VMGcKind → Type 0
TracesInside o ExternRef = o.spare ≡ 0
TracesInside o AnyRef = ⊥
TracesInside o EqRef = ⊥
TracesInside o StructRef = IsTraceWord StructRef (held_size Copying o) o.spare
TracesInside o ArrayRef =
    IsTraceWord ArrayRef (held_size Copying o) o.spare
    × (o.spare % 2 ≡ 1 → array_base Copying + array_length o * 4 ≤ held_size Copying o)
TracesInside o ExnRef = IsTraceWord ExnRef (held_size Copying o) o.spare

-- the bytes of each half of a copying heap: the capacity, in whole multiples of 32, is halved
abbrev pub half_of : ℕ → ℕ
half_of capacity = capacity / 32 * 16

-- where the active half of a copying heap begins
abbrev pub active_half_start : HeapView → ℕ
active_half_start h = if h.needs_gc then half_of h.capacity else 0

-- in a counting heap each held place is counted, and only held ones are shown or queued
pub record TellsCounts (h : HeapView) : Type 0 where
  pub counted : (place : ℕ) → IsHeld h place ↔ IsSome (finite.get h.counts.counted place)
  pub shown : (place : ℕ) → IsTrue (finset.contains h.counts.shown place) → IsHeld h place
  pub queued : (place : ℕ) → IsTrue (finset.contains h.counts.queued place) → IsHeld h place

-- In a copying heap all objects lie in the active half, behind its first 16 bytes and below the
-- allocated ones, and each takes whole multiples of 16. With the sum of their sizes that says that they
-- lie without gaps.
pub record LiesInHalf (h : HeapView) : Type 0 where
  pub counts : h.counts ≡ no_counts
  pub half : h.allocated ≤ half_of h.capacity
  pub from : (place : ℕ) (o : HeapObject) → finite.get h.content place ≡ Some o → active_half_start h + 16 ≤ place
  pub below : (place : ℕ) (o : HeapObject) → finite.get h.content place ≡ Some o → place + held_size Copying o ≤ active_half_start h + h.allocated
  pub whole : (place : ℕ) (o : HeapObject) → finite.get h.content place ≡ Some o → held_size Copying o % alignment ≡ 0

-- No object lies in so many bytes from a place on, where one may begin.
pub record IsFree (h : HeapView) (place bytes : ℕ) : Type 0 where
  pub aligned : place % alignment ≡ 0
  pub not_null : 0 < place
  pub inside : place + bytes ≤ h.capacity
  pub free : (q : ℕ) (o : HeapObject) → finite.get h.content q ≡ Some o → (q + block_size Counting o ≤ place) ⊎ (place + bytes ≤ q)

-- An object of a counting heap ends there.
pub record EndsAt (h : HeapView) (place : ℕ) : Type 0 where
  pub before : ℕ
  pub object : HeapObject
  pub held : finite.get h.content before ≡ Some object
  pub ends : before + block_size Counting object ≡ place
