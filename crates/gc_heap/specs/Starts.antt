-- Where a collection begins, and what is reached and named there.
use Rattle.std.specs.Prelude.{Bool, IsTrue, List, None, Option, Some, filter, length, map, nat_eq, not, ℕ, ◌+◌, ◌==◌, ◌↔◌, ◌≡◌}
use Rattle.std.specs.List.{Contains, IsDistinct}
use Rattle.std.specs.FinMap as finite
use Rattle.std.specs.FinSet as finset
use Rattle.gc_types.specs.declared.kind.Layouts.TheVariants.{Counting}
use Rattle.gc_types.specs.Declarations.{Declaration}
use Rattle.gc_types.specs.declared.kind.Layouts.{Layouts}
use Rattle.gc_roots.specs.Roots.{Root}
use Rattle.gc_view.specs.Heaps.{HeapObject, HeapView}
use Rattle.gc_view.specs.Reach.{Reachable}
use Rattle.gc_heap.specs.Space.{IsHeld, total}
use Rattle.gc_heap.specs.References.{reference_offsets, references}

-- Where a collection begins: the heap, the root words, the types, and whether the host table has a
-- value under an id.
pub record Start : Type 0 where
  pub heap : HeapView
  pub roots : List Root
  pub types : List Declaration
  pub hosts : ℕ → Bool

-- how often a word stands in a list
abbrev pub occurrences : ℕ → List ℕ → ℕ
occurrences word words = length (filter (nat_eq word) words)

-- the words of the roots that are no frame slots, and of those that are
abbrev pub held_words : List Root → List ℕ
held_words roots = map (λ (r : Root). r.word) (filter (λ (r : Root). not r.on_stack) roots)

abbrev pub stack_words : List Root → List ℕ
stack_words roots = map (λ (r : Root). r.word) (filter (λ (r : Root). r.on_stack) roots)

-- how often a place is named by the objects and by the roots that are no frame slots
abbrev pub names_of : Layouts → List Declaration → HeapView → List Root → ℕ → ℕ
names_of layouts types h roots place =
    total (λ o. occurrences place (references layouts types o)) h.content + occurrences place (held_words roots)

-- The counts of a heap that counts are exact: each held place's is the number of its names, and each
-- place that a frame slot names is shown.
pub record CountsExact (types : List Declaration) (h : HeapView) (roots : List Root) : Type 0 where
  pub counted : (place n : ℕ) → finite.get h.counts.counted place ≡ Some n → n ≡ names_of Counting types h roots place
  pub shown : (place : ℕ) → IsHeld h place → Contains (stack_words roots) place → IsTrue (finset.contains h.counts.shown place)

-- a root names the object that is held at a place
pub record RootNames (s : Start) (place : ℕ) : Type 0 where
  pub held : IsHeld s.heap place
  pub root : Root
  pub among : Contains s.roots root
  pub names : root.word ≡ place

-- the object at a place names the one that is held at another
pub record ObjectNames (layouts : Layouts) (s : Start) (from place : ℕ) : Type 0 where
  pub held : IsHeld s.heap place
  pub object : HeapObject
  pub there : finite.get s.heap.content from ≡ Some object
  pub among : Contains (references layouts s.types object) place

-- the places that the roots reach
abbrev pub ReachedPlace : Layouts → Start → ℕ → Type 0
ReachedPlace layouts s = Reachable (RootNames s) (ObjectNames layouts s)

-- after a collection shown are exactly the places that frame slots name, and nothing is queued
pub record CountsAnew (types : List Declaration) (h : HeapView) (roots : List Root) : Type 0 where
  pub exact : CountsExact types h roots
  pub shown : (place : ℕ) → IsTrue (finset.contains h.counts.shown place) → Contains (stack_words roots) place
  pub queued : h.counts.queued ≡ finset.empty

-- no object has moved, and each that is kept is as it was
abbrev pub Stays : (ℕ → Type 0) → (ℕ → ℕ) → HeapView → HeapView → Type 0
Stays IsKept to old new = (place : ℕ) → IsKept place → (to place ≡ place) × (finite.get new.content place ≡ finite.get old.content place)

-- a list of the places that are reached, each once
pub record AreReached (layouts : Layouts) (s : Start) (places : List ℕ) : Type 0 where
  pub distinct : IsDistinct nat_eq places
  pub reached : (place : ℕ) → Contains places place ↔ ReachedPlace layouts s place

-- the greatest number of objects that one increment of a copying collection scans
abbrev pub objects_per_increment : ℕ
objects_per_increment = 16384

-- how many references an object at a place has; none where none is held
abbrev pub reference_count : Layouts → List Declaration → Option HeapObject → ℕ
reference_count layouts types None = 0
reference_count layouts types (Some o) = length (reference_offsets layouts types o)

-- the words of the roots that aren't null
abbrev pub present_words : List Root → List Root
present_words roots = filter (λ (r : Root). not (r.word == 0)) roots
