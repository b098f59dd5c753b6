-- What contracts see of a heap.
use Rattle.std.specs.Prelude.{◌≡◌, ℕ, Bool, false, List}
use Rattle.std.specs.Ordering.{nat_cmp}
use Rattle.std.specs.FinMap as map
use Rattle.std.specs.FinSet as finset
use Rattle.std.specs.FinSet.{FinSet}
use Rattle.gc_types.specs.declared.kind.VMGcKind.{VMGcKind}

-- an object of a heap: its kind, its type, the spare bits of its kind word as far as they are its
-- maker's (the trace word in a copying heap), and its data: the bytes from the first free offset of a
-- struct on, or the host id of an external object
pub record HeapObject : Type 0 where
  pub kind : VMGcKind
  pub ty : ℕ
  pub spare : ℕ
  pub bytes : List ℕ

-- What a heap that counts references tells: how often each place is named, the places on the list of
-- shown words, and those that are queued to be freed. Other heaps tell nothing.
pub record Counts : Type 0 where
  pub counted : map.FinMap nat_cmp ℕ
  pub shown : FinSet nat_cmp
  pub queued : FinSet nat_cmp

-- no counts, as in a heap that doesn't tell any
abbrev pub no_counts : Counts
no_counts = record { counted = map.empty; shown = finset.empty; queued = finset.empty }

-- A heap: whether it has a memory, its objects by their places, the bytes of its memory, the bytes
-- that are allocated, whether it must collect before it grows, how many scopes stand in which it may
-- not collect, and its counts.
pub record HeapView : Type 0 where
  pub attached : Bool
  pub content : map.FinMap nat_cmp HeapObject
  pub capacity : ℕ
  pub allocated : ℕ
  pub needs_gc : Bool
  pub scopes : ℕ
  pub counts : Counts

-- a heap holds the same objects in the same memory
pub record SameHeld (old new : HeapView) : Type 0 where
  pub content : new.content ≡ old.content
  pub attached : new.attached ≡ old.attached
  pub capacity : new.capacity ≡ old.capacity
  pub allocated : new.allocated ≡ old.allocated
  pub needs_gc : new.needs_gc ≡ old.needs_gc

-- a heap with no memory, in which so many scopes stand that forbid a collection
abbrev pub detached_in : ℕ → HeapView
detached_in scopes = record {
  attached = false;
  content = map.empty;
  capacity = 0;
  allocated = 0;
  needs_gc = false;
  scopes = scopes;
  counts = no_counts;
}

-- a heap with no memory
abbrev pub detached : HeapView
detached = detached_in 0
