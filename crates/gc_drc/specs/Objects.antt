-- Where a collection begins in objects, and what of it stands in memory.
use Rattle.std.specs.Prelude.{◌≡◌, ℕ, List, []}
use Rattle.gc_types.specs.declared.kind.Layouts.TheVariants.{Counting}
use Rattle.gc_heap.specs.Collection.{Start, CanCollect, held_words, stack_words}
use Rattle.gc_drc.specs.declared.space.CountedSpace.{CountedSpace}
use Rattle.gc_drc.specs.Graph.{CountedGraph}
use Rattle.gc_drc.specs.View.{View, HoldsBlocks}
use Rattle.gc_drc.specs.Content.{counting_seen_in}
use Rattle.gc_drc.specs.CollectMemory.{Context, counting_offsets_at, words_at}

-- what names what, where the objects lie at these places
abbrev pub counted_graph : Start → List ℕ → List ℕ → CountedGraph
counted_graph s bytes places = record {
  places = places;
  roots = held_words s.roots;
  frames = stack_words s.roots;
  words = λ p. words_at bytes p (counting_offsets_at s.types bytes p);
}

-- the memory with that
abbrev pub context_of : Start → List ℕ → List ℕ → Context
context_of s bytes places = record { graph = counted_graph s bytes places; memory = bytes; types = s.types }

-- A collection that may begin there begins in this space, which shows a view.
pub record CountingBeginsIn (s : Start) (v : View) (space : CountedSpace) (scopes : ℕ) : Type 0 where
  pub holds : HoldsBlocks v space
  pub unmarked : v.marked ≡ []
  pub heap_is : counting_seen_in scopes space ≡ s.heap
  pub can : CanCollect Counting s
