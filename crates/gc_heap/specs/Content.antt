-- What is always true of a heap.
use Rattle.std.specs.Prelude.{Some, false, length, ℕ, ◌%◌, ◌*◌, ◌+◌, ◌<◌, ◌^◌, ◌≡◌, ◌≤◌}
use Rattle.std.specs.FinMap as finite
use Rattle.gc_types.specs.declared.kind.VMGcKind.TheVariants.{ExternRef}
use Rattle.gc_types.specs.declared.kind.Layouts.{Layouts}
use Rattle.gc_view.specs.Heaps.{HeapObject, HeapView, detached_in}
use Rattle.gc_view.specs.Sizes.{alignment}
use Rattle.gc_view.specs.Pages.{max_pages, page}
use Rattle.gc_heap.specs.Extents.{IsObjectKind, data_offset, first_offset, held_size}
pub use Rattle.gc_heap.specs.Space.{IsHeld, LiesInHalf, TellsCounts, TracesInside, block_size, half_of, active_half_start, total}
pub use Rattle.gc_heap.specs.Rules.{AllocatedIs, IsSpare, KindIs}

-- An object lies at a place of the memory, whole. Objects begin at multiples of 16, and never at 0,
-- which is null.
pub record LiesAtPlace (layouts : Layouts) (capacity place : ℕ) (o : HeapObject) : Type 0 where
  pub aligned : place % alignment ≡ 0
  pub not_null : 0 < place
  pub kind : IsObjectKind o.kind
  pub whole : first_offset layouts o.kind ≤ data_offset layouts o.kind + length o.bytes
  pub host : o.kind ≡ ExternRef → length o.bytes ≡ 4
  pub spare : IsSpare layouts o
  pub inside : place + held_size layouts o ≤ capacity

-- What is always true of a heap outside a collection.
pub record IsHeap (layouts : Layouts) (h : HeapView) : Type 0 where
  pub objects : (place : ℕ) (o : HeapObject) → finite.get h.content place ≡ Some o → LiesAtPlace layouts h.capacity place o
  pub apart : (p q : ℕ) (o o' : HeapObject) → finite.get h.content p ≡ Some o → finite.get h.content q ≡ Some o'
      → p < q → p + held_size layouts o ≤ q
  pub fits : total (held_size layouts) h.content ≤ h.capacity
  pub pages : h.capacity % page ≡ 0
  pub bound : h.capacity ≤ page * max_pages
  pub within : h.allocated ≤ h.capacity
  pub allocated : AllocatedIs layouts h
  pub by_kind : KindIs layouts h
  pub detached : h.attached ≡ false → h ≡ detached_in h.scopes
  pub scopes : h.scopes < 2 ^ 64
