-- The memory of a heap as it is lent for reading.
use Rattle.std.specs.Prelude.{List, Some, length, ℕ, ◌≡◌}
use Rattle.std.specs.FinMap as finite
use Rattle.gc_types.specs.declared.kind.Layouts.{Layouts}
use Rattle.gc_types.specs.declared.kind.VMGcKind.TheVariants.{ExternRef}
use Rattle.gc_view.specs.Bytes.{u32_at}
use Rattle.gc_view.specs.Heaps.{HeapObject, HeapView}
use Rattle.gc_heap.specs.Barriers.{ShowsCount}
use Rattle.gc_heap.specs.FreedHosts.{IsHostWord}
use Rattle.gc_heap.specs.Lying.{LiesIn}

-- All that a heap holds lies in these bytes, the counts where it tells them; the number of an external
-- object's host value is one that a table may give.
pub record IsMemoryOf (layouts : Layouts) (h : HeapView) (bytes : List ℕ) : Type 0 where
  pub size : length bytes ≡ h.capacity
  pub objects : (place : ℕ) (o : HeapObject) → finite.get h.content place ≡ Some o → LiesIn layouts bytes place o
  pub hosts : (place : ℕ) (o : HeapObject) → finite.get h.content place ≡ Some o → o.kind ≡ ExternRef → IsHostWord (u32_at o.bytes 0)
  pub counts : (place n : ℕ) → finite.get h.counts.counted place ≡ Some n → ShowsCount h bytes place n
