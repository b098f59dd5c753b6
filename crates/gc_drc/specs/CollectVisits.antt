-- The words of an object are visited one by one.
use Rattle.std.specs.Prelude.{◌≡◌, ℕ, ◌+◌, ◌≤◌, List, [], ◌∷◌, Bool, true, false}
use Rattle.gc_types.specs.Declarations.{Declaration}
use Rattle.gc_memory.specs.Lists.{In}
use Rattle.gc_memory.specs.Words.{word}
use Rattle.gc_heap.specs.References.{word_offsets}
use Rattle.gc_drc.specs.Layout.{counting_size_at}
use Rattle.gc_drc.specs.CollectMemory.{Context, words_at}

-- offsets of words inside an object's data
pub record InObject (c : Context) (place : ℕ) (offsets : List ℕ) : Type 0 where
  pub place_in : In place c.graph.places
  pub inside : (o : ℕ) → In o offsets → (28 ≤ o) × (o + 4 ≤ counting_size_at c.memory place)

-- the words at these offsets of an object are to be visited
pub record CanVisit (state : Context → List ℕ → List ℕ → Type 0) (place : ℕ) (offsets : List ℕ) : Type 0 where
  pub context : Context
  pub places : List ℕ
  pub object : InObject context place offsets
  pub is : state context places (words_at context.memory place offsets)

-- the word at this offset is the next to be visited
pub record CanVisitAt (state : Context → List ℕ → List ℕ → Type 0) (place offset : ℕ) : Type 0 where
  pub rest : List ℕ
  pub can : CanVisit state place (offset ∷ rest)

-- words of an object were visited: those at these offsets are left
abbrev pub Visits : (Context → List ℕ → List ℕ → Type 0) → (Context → List ℕ → List ℕ → Type 0) → ℕ → List ℕ → List ℕ → Type 0
Visits old new place before after = (c : Context) (places : List ℕ) → InObject c place before
    → old c places (words_at c.memory place before) → new c places (words_at c.memory place after)

-- the offsets of an array's elements, where they are references
abbrev pub array_offsets : Bool → List ℕ → ℕ → List ℕ
array_offsets true bytes place = word_offsets 32 (word bytes (place + 28))
array_offsets false bytes place = []

-- the elements of an array are to be visited, where they are references
pub record CanVisitArray (state : Context → List ℕ → List ℕ → Type 0) (place : ℕ) (elements : Bool) : Type 0 where
  pub context : Context
  pub places : List ℕ
  pub object : InObject context place (array_offsets elements context.memory place)
  pub is_array : 32 ≤ counting_size_at context.memory place
  pub is : state context places (words_at context.memory place (array_offsets elements context.memory place))

-- they were visited
abbrev pub VisitsArray : (Context → List ℕ → List ℕ → Type 0) → (Context → List ℕ → List ℕ → Type 0) → ℕ → Bool → Type 0
VisitsArray old new place elements = (c : Context) (places : List ℕ) → InObject c place (array_offsets elements c.memory place) → 32 ≤ counting_size_at c.memory place
    → old c places (words_at c.memory place (array_offsets elements c.memory place)) → new c places []

-- the words of all references of an object are to be visited
pub record CanVisitObject (state : Context → List ℕ → List ℕ → Type 0) (types : List Declaration) (place : ℕ) : Type 0 where
  pub context : Context
  pub places : List ℕ
  pub typed : context.types ≡ types
  pub place_in : In place context.graph.places
  pub is : state context places (context.graph.words place)

-- they were visited
abbrev pub VisitsObject : (Context → List ℕ → List ℕ → Type 0) → (Context → List ℕ → List ℕ → Type 0) → List Declaration → ℕ → Type 0
VisitsObject old new types place = (c : Context) (places : List ℕ) → c.types ≡ types → In place c.graph.places
    → old c places (c.graph.words place) → new c places []
