-- A counting heap by its fields: what is seen of it, and how it is outside a collection and while its
-- memory is out.
use Rattle.std.specs.Prelude.{◌≡◌, ℕ, ◌<◌, ◌^◌, List}
use Rattle.gc_view.specs.Heaps.{HeapView, detached_in}
use Rattle.gc_drc.specs.declared.heap.DrcHeap.{DrcHeap}
use Rattle.gc_drc.specs.Backed.{CountingBacking}
use Rattle.gc_heap.specs.declared.backing.Backing.TheVariants as backing
use Rattle.gc_drc.specs.Content.{counting_seen_in, IsSoundSpace}
use Rattle.gc_drc.specs.Growth.{with_bytes}

-- what is seen of a heap that may have no memory
abbrev pub counting_seen_of : ℕ → CountingBacking → HeapView
counting_seen_of scopes backing.Detached = detached_in scopes
counting_seen_of scopes (backing.Attached s) = counting_seen_in scopes s
counting_seen_of scopes (backing.Taken m) = detached_in scopes

abbrev pub drc_seen : DrcHeap → HeapView
drc_seen h = counting_seen_of h.scopes h.backing

-- the memory is there and sound, or there is none
abbrev pub IsCountingBacked : CountingBacking → Type 0
IsCountingBacked backing.Detached = Unit {0}
IsCountingBacked (backing.Attached s) = IsSoundSpace s
IsCountingBacked (backing.Taken m) = ⊥

-- A counting heap is as it is outside a collection.
pub record IsDrcSound (h : DrcHeap) : Type 0 where
  pub backed : IsCountingBacked h.backing
  pub scopes : h.scopes < 2 ^ 64

-- the memory is out, and was sound with these bytes
abbrev pub IsCountingOut : ℕ → CountingBacking → HeapView → List ℕ → Type 0
IsCountingOut scopes backing.Detached view bytes = ⊥
IsCountingOut scopes (backing.Attached s) view bytes = ⊥
IsCountingOut scopes (backing.Taken m) view bytes = IsSoundSpace (with_bytes m bytes) × (view ≡ counting_seen_in scopes (with_bytes m bytes))

-- The memory of a counting heap is out; it was seen so, with these bytes.
pub record IsDrcTaken (h : DrcHeap) (view : HeapView) (bytes : List ℕ) : Type 0 where
  pub out : IsCountingOut h.scopes h.backing view bytes
  pub scopes : h.scopes < 2 ^ 64
