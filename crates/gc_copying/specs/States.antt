-- A copying heap by its fields: what is seen of it, and how it is outside a collection and while its
-- memory is out.
use Rattle.std.specs.Prelude.{◌≡◌, ℕ, ◌<◌, ◌^◌, List}
use Rattle.gc_view.specs.Heaps.{HeapView, detached_in}
use Rattle.gc_copying.specs.Content.{space_view, IsSpace}
use Rattle.gc_copying.specs.declared.space.Space.{Space}
use Rattle.gc_copying.specs.declared.heap.CopyingHeap.{CopyingHeap}
use Rattle.gc_copying.specs.Backed.{CopyingBacking}
use Rattle.gc_heap.specs.declared.backing.Backing.TheVariants as backing

-- what is seen of a space of a heap with so many scopes
abbrev pub copying_seen_in : ℕ → Space → HeapView
copying_seen_in scopes s = space_view s.memory s.upper s.bump scopes

-- the space is as it is outside a collection
abbrev pub IsSoundSemiSpace : Space → Type 0
IsSoundSemiSpace s = IsSpace s.memory s.upper s.bump s.externals s.objects

-- what is seen of a heap that may have no memory
abbrev pub copying_seen_of : ℕ → CopyingBacking → HeapView
copying_seen_of scopes backing.Detached = detached_in scopes
copying_seen_of scopes (backing.Attached s) = copying_seen_in scopes s
copying_seen_of scopes (backing.Taken m) = detached_in scopes

abbrev pub copying_seen : CopyingHeap → HeapView
copying_seen h = copying_seen_of h.scopes h.backing

-- the memory is there and sound, or there is none
abbrev pub IsCopyingBacked : CopyingBacking → Type 0
IsCopyingBacked backing.Detached = Unit {0}
IsCopyingBacked (backing.Attached s) = IsSoundSemiSpace s
IsCopyingBacked (backing.Taken m) = ⊥

-- A copying heap is as it is outside a collection.
pub record IsCopyingSound (h : CopyingHeap) : Type 0 where
  pub backed : IsCopyingBacked h.backing
  pub scopes : h.scopes < 2 ^ 64

-- the memory is out, and was sound with these bytes
abbrev pub IsCopyingOut : ℕ → CopyingBacking → HeapView → List ℕ → Type 0
IsCopyingOut scopes backing.Detached view bytes = ⊥
IsCopyingOut scopes (backing.Attached s) view bytes = ⊥
IsCopyingOut scopes (backing.Taken m) view bytes =
    IsSpace bytes m.upper m.bump m.externals m.objects × (view ≡ space_view bytes m.upper m.bump scopes)

-- The memory of a copying heap is out; it was seen so, with these bytes.
pub record IsCopyingTaken (h : CopyingHeap) (view : HeapView) (bytes : List ℕ) : Type 0 where
  pub out : IsCopyingOut h.scopes h.backing view bytes
  pub scopes : h.scopes < 2 ^ 64
