-- What is seen of the memory of a counting heap.
use Rattle.std.specs.Prelude.{◌≡◌, ℕ, ◌-◌, ◌/◌, ◌%◌, true, nat_eq, List, [], map, filter, length}
use Rattle.std.specs.Ordering.{nat_cmp}
use Rattle.std.specs.FinMap as finite
use Rattle.std.specs.FinSet as finset
use Rattle.gc_view.specs.Heaps.{HeapView, Counts, detached_in}
use Rattle.gc_free.specs.declared.run.Run.{Run}
use Rattle.gc_drc.specs.declared.space.CountedSpace.{CountedSpace}
use Rattle.gc_drc.specs.Layout.{count_at, flags_at, counting_object_at}
use Rattle.gc_drc.specs.View.{View, HoldsBlocks}

-- what a function gives at some places
abbrev pub at_places : {X : Type 0} → (ℕ → X) → List ℕ → finite.FinMap nat_cmp X
at_places f ps = finite.from_entries (map (λ (p : ℕ). (p, f p)) ps)

-- where the blocks of a free list lie
abbrev pub places_of : List Run → List ℕ
places_of held = map (λ (r : Run). r.place) held

-- one flag of the object at a place, as 0 or 1
abbrev pub shown_at : List ℕ → ℕ → ℕ
shown_at bytes place = flags_at bytes place / 2 % 2

abbrev pub queued_at : List ℕ → ℕ → ℕ
queued_at bytes place = flags_at bytes place / 4 % 2

-- how often a place is named: its count word without the two lists
abbrev pub counted_at : List ℕ → ℕ → ℕ
counted_at bytes place = count_at bytes place - shown_at bytes place - queued_at bytes place

-- the counts of the objects at these places
abbrev pub counts_at : List ℕ → List ℕ → Counts
counts_at bytes ps = record {
  counted = at_places (counted_at bytes) ps;
  shown = finset.from_list (filter (λ (p : ℕ). nat_eq (shown_at bytes p) 1) ps);
  queued = finset.from_list (filter (λ (p : ℕ). nat_eq (queued_at bytes p) 1) ps);
}

-- what is seen of a space of a heap with so many scopes
abbrev pub counting_seen_in : ℕ → CountedSpace → HeapView
counting_seen_in scopes s = record (detached_in scopes) {
  attached = true;
  content = at_places (counting_object_at s.memory) (places_of s.free.space.held);
  capacity = length s.memory;
  allocated = s.allocated;
  counts = counts_at s.memory (places_of s.free.space.held);
}

-- the space is as it is outside a collection: it shows a view in which nothing is marked
pub record IsSoundSpace (s : CountedSpace) : Type 0 where
  pub view : View
  pub holds : HoldsBlocks view s
  pub unmarked : view.marked ≡ []
