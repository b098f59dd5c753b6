-- What contracts see of a mutator.
use Rattle.std.specs.Prelude.{◌≡◌, ◌<◌, ◌^◌, ℕ, Bool, List, [], ◌∷◌, ◌++◌, Option, Some, None, length}
use Rattle.std.specs.FinMap.{FinMap, get}
use Rattle.std.specs.Ordering.{nat_cmp}
use Rattle.gc_types.specs.declared.kind.Layouts.{Layouts}
use Rattle.gc_types.specs.Declarations.{Declaration}
use Rattle.gc_roots.specs.Roots.{Root, root, root_at, with_word_at}
use Rattle.gc_view.specs.Heaps.{HeapObject, HeapView}
use Rattle.gc_heap.specs.Content.{IsHeld}
use Rattle.gc_heap.specs.Collection.{Start, CanCollect}
use Rattle.gc_heap.specs.Run.{start_at}

-- a mutator: its heap, its roots in the order in which they were made, its types and its host values
pub record MutatorView : Type 0 where
  pub heap : HeapView
  pub roots : List Root
  pub types : List Declaration
  pub hosts : FinMap nat_cmp ℕ

-- how many roots a mutator has at most
abbrev pub max_roots : ℕ
max_roots = 2 ^ 31

-- where a collection would begin
abbrev pub mutator_start : MutatorView → Start
mutator_start m = start_at m.heap m.roots m.types m.hosts

-- The heap is sound, and a collection may begin.
pub record IsMutatorReady (layouts : Layouts) (heap_is_sound : Type 0) (m : MutatorView) : Type 0 where
  pub sound : heap_is_sound
  pub can : CanCollect layouts (mutator_start m)

-- the word of a root
abbrev pub word_at_root : MutatorView → ℕ → ℕ
word_at_root m index = (root_at m.roots index).word

-- the word that a root holds from the time on when it was given up: a 31-bit number
abbrev pub gone_word : ℕ
gone_word = 1

-- the mutator with another heap and one root more, which is a frame slot or none
abbrev pub with_root : MutatorView → HeapView → Bool → ℕ → MutatorView
with_root m heap on_stack word = record m { heap = heap; roots = m.roots ++ root 0 on_stack word ∷ [] }

-- the mutator with another heap and without the name that a root was
abbrev pub without_root : MutatorView → HeapView → ℕ → MutatorView
without_root m heap index = record m { heap = heap; roots = with_word_at m.roots index gone_word }

-- a root of that index stands, which is a frame slot or none
abbrev pub IsRoot : Bool → MutatorView → ℕ → Type 0
IsRoot on_stack m index = (index < length m.roots) × ((root_at m.roots index).on_stack ≡ on_stack)

-- a root of that index stands, and names an object
abbrev pub NamesObject : MutatorView → ℕ → Type 0
NamesObject m index = (index < length m.roots) × IsHeld m.heap (word_at_root m index)

-- A root of that index stands, and names an object that is such.
pub record NamesSuch (m : MutatorView) (index : ℕ) (is_such : HeapObject → Type 0) : Type 0 where
  pub stands : index < length m.roots
  pub object : HeapObject
  pub held : get m.heap.content (word_at_root m index) ≡ Some object
  pub such : is_such object

-- the word of a root that is written to a field; none is null
abbrev pub source_word : MutatorView → Option ℕ → Option ℕ
source_word m None = None
source_word m (Some index) = Some (word_at_root m index)
