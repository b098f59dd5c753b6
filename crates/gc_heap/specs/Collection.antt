-- What a collection keeps, and how it leaves the heap.
use Rattle.std.specs.Prelude.{Bool, List, Some, false, if◌then◌else◌, is_some, length, map, not, slice_index_or, true, ℕ, ◌%◌, ◌&&◌, ◌+◌, ◌<◌, ◌==◌, ◌≡◌, ◌≤◌, ◌⊎◌}
use Rattle.std.specs.List.{Contains}
use Rattle.std.specs.Ordering.{nat_cmp}
use Rattle.std.specs.FinMap as finite
use Rattle.gc_types.specs.Declarations.{Declaration}
use Rattle.gc_types.specs.declared.kind.VMGcKind.TheVariants.{ExternRef}
use Rattle.gc_types.specs.declared.kind.Layouts.{Layouts}
use Rattle.gc_types.specs.Layouts.{struct_base}
use Rattle.gc_roots.specs.Roots.{Root}
use Rattle.gc_view.specs.Heaps.{HeapObject, HeapView}
use Rattle.gc_heap.specs.Rules.{IsTyped}
use Rattle.gc_heap.specs.declared.collection.GcProgress.{GcProgress}
use Rattle.gc_heap.specs.Space.{IsHeld}
use Rattle.gc_heap.specs.Extents.{host_id}
use Rattle.gc_heap.specs.References.{reference_offsets, references, word_in}
use Rattle.gc_heap.specs.declared.collection.GcProgress.TheVariants as progress
pub use Rattle.gc_heap.specs.Starts.{AreReached, CountsAnew, CountsExact, ObjectNames, ReachedPlace, RootNames, Start, Stays, held_words, names_of, objects_per_increment, occurrences, present_words, reference_count, stack_words}
pub use Rattle.gc_heap.specs.Rules.{AreCounted, IsIncrements, IsStepCount, Kept, KindCollected}

-- whether a host table has a value under an id
abbrev pub has_host : {D : Type 0} → finite.FinMap nat_cmp D → ℕ → Bool
has_host entries id = is_some (finite.get entries id)

-- A collection between two increments: the heap, the collection's own state, the root words, the types, and
-- whether the host table has a value under an id.
pub record Stage (Heap State : Type 0) : Type 0 where
  pub heap : Heap
  pub state : State
  pub roots : List Root
  pub types : List Declaration
  pub hosts : ℕ → Bool

-- the stage with this heap, state, roots, types and host table
abbrev pub stage : {Heap State D : Type 0} → Heap → State → List Root → List Declaration → finite.FinMap nat_cmp D → Stage Heap State
stage h state roots types entries = record { heap = h; state = state; roots = roots; types = types; hosts = has_host entries }

-- some collection has come so far, by a heap's relation of where it began, how many increments it has done,
-- whether each was counted, and how it stands
abbrev pub IsUnderWay : {A : Type 0} → (Start → ℕ → Bool → A → Type 0) → A → Type 0
IsUnderWay {A} HasCome at = (s : Start) × ((n : ℕ) × ((c : Bool) × HasCome s n c at))

-- no value of a host table was changed or added
abbrev pub IsPartOf : {D : Type 0} → finite.FinMap nat_cmp D → finite.FinMap nat_cmp D → Type 0
IsPartOf {D} part whole = (id : ℕ) (value : D) → finite.get part id ≡ Some value → finite.get whole id ≡ Some value

-- a word of a root or a field: null, a 31-bit number, or the place of a held object
abbrev pub IsWordOf : HeapView → ℕ → Type 0
IsWordOf h word = (word ≡ 0) ⊎ ((word % 2 ≡ 1) ⊎ IsHeld h word)

-- an external object is held at that place
pub record IsExternal (h : HeapView) (place : ℕ) (o : HeapObject) : Type 0 where
  pub held : finite.get h.content place ≡ Some o
  pub kind : o.kind ≡ ExternRef

-- A collection may begin there.
pub record CanCollect (layouts : Layouts) (s : Start) : Type 0 where
  pub attached : s.heap.attached ≡ true
  pub open_scopes : s.heap.scopes ≡ 0
  pub roots : (r : Root) → Contains s.roots r → IsWordOf s.heap r.word
  pub fields : (place : ℕ) (o : HeapObject) (word : ℕ) → finite.get s.heap.content place ≡ Some o
      → Contains (references layouts s.types o) word → IsWordOf s.heap word
  pub typed : (place : ℕ) (o : HeapObject) → finite.get s.heap.content place ≡ Some o → IsTyped layouts s.types o
  pub hosts : (place : ℕ) (o : HeapObject) → IsExternal s.heap place o → s.hosts (host_id o) ≡ true
  pub own_hosts : (p q : ℕ) (o o' : HeapObject) → IsExternal s.heap p o → IsExternal s.heap q o' → host_id o ≡ host_id o' → p ≡ q
  pub counts : AreCounted layouts s.types s.heap s.roots

-- the word of a reference where objects have moved: null and 31-bit numbers stay
abbrev pub moved : (ℕ → ℕ) → ℕ → ℕ
moved to word = if (word % 2 == 0) && not (word == 0) then to word else word

-- the root with its word moved
abbrev pub moved_root : (ℕ → ℕ) → Root → Root
moved_root to r = record r { word = moved to r.word }

-- an offset lies in no reference of an object
abbrev pub IsNoReference : List ℕ → ℕ → Type 0
IsNoReference offsets at = (offset : ℕ) → Contains offsets offset → (at < offset) ⊎ (offset + 4 ≤ at)

-- An object is another one with its references moved, and else the same.
pub record IsMoved (layouts : Layouts) (types : List Declaration) (to : ℕ → ℕ) (old new : HeapObject) : Type 0 where
  pub kind : new.kind ≡ old.kind
  pub ty : new.ty ≡ old.ty
  pub spare : new.spare ≡ old.spare
  pub size : length new.bytes ≡ length old.bytes
  pub refers : (offset : ℕ) → Contains (reference_offsets layouts types old) offset → word_in layouts new offset ≡ moved to (word_in layouts old offset)
  pub rest : (at d : ℕ) → IsNoReference (reference_offsets layouts types old) (struct_base layouts + at)
      → slice_index_or new.bytes at d ≡ slice_index_or old.bytes at d

-- A collection is complete: the objects are those that are kept, at their new places and with their
-- references moved; the root words are moved with them; and the host table has lost the values of the
-- external objects that aren't kept.
pub record Collected (layouts : Layouts) (s : Start) (h : HeapView) (roots : List Root) (hosts : ℕ → Bool) : Type 0 where
  pub to : ℕ → ℕ
  pub injective : (p q : ℕ) → Kept layouts s p → Kept layouts s q → to p ≡ to q → p ≡ q
  pub kept : (place : ℕ) (o : HeapObject) → Kept layouts s place → finite.get s.heap.content place ≡ Some o
      → (o' : HeapObject) × ((finite.get h.content (to place) ≡ Some o') × IsMoved layouts s.types to o o')
  pub only : (place : ℕ) → IsHeld h place → (from : ℕ) × (Kept layouts s from × (to from ≡ place))
  pub roots_moved : roots ≡ map (moved_root to) s.roots
  pub hosts_lost : (place : ℕ) (o : HeapObject) → IsExternal s.heap place o → (Kept layouts s place → ⊥) → hosts (host_id o) ≡ false
  pub hosts_kept : (id : ℕ) → ((place : ℕ) (o : HeapObject) → IsExternal s.heap place o → host_id o ≡ id → Kept layouts s place)
      → hosts id ≡ s.hosts id
  pub attached : h.attached ≡ true
  pub capacity : h.capacity ≡ s.heap.capacity
  pub scopes : h.scopes ≡ 0
  pub by_kind : KindCollected layouts s to h roots

-- What an increment answers and leaves: it goes on exactly before the last one; `goes` says what then
-- stands between two increments, and `ended` what stands at the end.
abbrev pub Stepped : Layouts → Start → ℕ → GcProgress → Type 0 → Type 0 → Type 0
Stepped layouts s done progress.Complete goes ended = IsIncrements layouts s done × ended
Stepped layouts s done progress.Continue goes ended = ((n : ℕ) → IsIncrements layouts s n → done < n) × goes
