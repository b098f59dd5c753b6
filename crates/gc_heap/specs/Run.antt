-- Where a whole collection begins, and how a counter rises.
use Rattle.std.specs.Prelude.{◌≡◌, ℕ, ◌+◌, List}
use Rattle.std.specs.Ordering.{nat_cmp}
use Rattle.std.specs.FinMap.{FinMap}
use Rattle.gc_types.specs.Declarations.{Declaration}
use Rattle.gc_roots.specs.Roots.{Root}
use Rattle.gc_view.specs.Heaps.{HeapView}
use Rattle.gc_heap.specs.Collection.{Start, has_host}

-- the start with this heap, these roots and types, and the ids that this host table has
abbrev pub start_at : {D : Type 0} → HeapView → List Root → List Declaration → FinMap nat_cmp D → Start
start_at h roots types entries = record { heap = h; roots = roots; types = types; hosts = has_host entries }

-- a counter rose by such a number
abbrev pub IsRise : (ℕ → Type 0) → ℕ → ℕ → Type 0
IsRise IsSuch old new = (n : ℕ) × (IsSuch n × (new ≡ old + n))
