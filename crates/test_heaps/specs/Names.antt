-- How often a program knows that it names an object.
use Rattle.std.specs.Prelude.{◌≡◌, ℕ, Some}
use Rattle.std.specs.FinMap.{get}
use Rattle.gc_view.specs.Heaps.{HeapView}
use Rattle.gc_heap.specs.Content.{IsHeld}

-- An object is held at a place; where it is counted, so many names of it are.
pub record HasNames (h : HeapView) (place count : ℕ) : Type 0 where
  pub held : IsHeld h place
  pub counted : (n : ℕ) → get h.counts.counted place ≡ Some n → n ≡ count
