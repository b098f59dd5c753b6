-- What a copy of a word that is shown to a frame slot does to a heap.
use Rattle.std.specs.Prelude.{ℕ, zero, suc}
use Rattle.gc_view.specs.Heaps.{HeapView}
use Rattle.gc_heap.specs.Barriers.{cloned, exposed}

-- the heap after a word was copied and the copy was shown to a frame slot; null is no name
abbrev pub copied_to_slot : HeapView → ℕ → HeapView
copied_to_slot h zero = h
copied_to_slot h (suc n) = exposed (cloned h (suc n)) (suc n)
