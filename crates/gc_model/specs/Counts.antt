-- How often positions are named, as a counting heap counts it.
use Rattle.std.specs.Prelude.{◌≡◌, ℕ, ◌+◌, ◌++◌, ◌==◌, IsTrue, Bool, false, nat_eq, List, [], Option, Some, None, length, filter, map, sum, slice_get}
use Rattle.std.specs.List.{Contains, flat_map}
use Rattle.std.specs.FinMap as finite
use Rattle.std.specs.FinSet as finset
use Rattle.gc_view.specs.Heaps.{Counts}
use Rattle.gc_heap.specs.Collection.{occurrences}
use Rattle.gc_owner.specs.declared.entry.OwnedEntry.{OwnedEntry}
use Rattle.gc_model.specs.Values.{Reference, null, small, at, Object}
use Rattle.gc_model.specs.Table.{Table, Scoped, Owned}
use Rattle.gc_model.specs.Reach.{references_in, slot_references, present}
use Rattle.gc_model.specs.Words.{Placing}

-- whether a reference names the position
abbrev pub is_at : ℕ → Reference → Bool
is_at p null = false
is_at p (small n) = false
is_at p (at q) = nat_eq p q

-- how often a position is named among references
abbrev pub times : ℕ → List Reference → ℕ
times p references = length (filter (is_at p) references)

-- what the roots of a table name whose names are counted: all but slots of frames
abbrev pub counted_references : {D : Type 0} → Table D → List Reference
counted_references t =
    map (λ (root : Scoped). root.reference) t.scoped
    ++ (map (λ (root : Owned). root.reference) t.owned
    ++ (slot_references t.globals ++ present t.pending))

-- the references in an object; none where there is none
abbrev pub references_of : {D : Type 0} → Option (Object D) → List Reference
references_of None = []
references_of (Some o) = references_in o

-- how often a position is named by the objects of some positions, and by the roots whose names are counted
abbrev pub count : {D : Type 0} → Table D → List ℕ → ℕ → ℕ
count t held p = sum (map (λ (q : ℕ). times p (references_of (slice_get t.objects q))) held) + times p (counted_references t)

-- the words of the owned roots of a store that have no handles, and were not removed yet
abbrev pub given_up : List OwnedEntry → List ℕ
given_up owned = map (λ (e : OwnedEntry). e.word) (filter (λ (e : OwnedEntry). e.handles == 0) owned)

-- The counts of a heap that holds these positions at these places, beside these owned roots of its store: each place
-- is counted as often as its position is named, and once more for each owned root there that was given up; and what
-- a slot of a frame names is on the list of shown words.
pub record CountsBy {D : Type 0} (t : Table D) (held : List ℕ) (places : Placing) (owned : List OwnedEntry) (counts : Counts) : Type 0 where
  pub counted : (p word : ℕ) → places p ≡ Some word → finite.get counts.counted word ≡ Some (count t held p + occurrences word (given_up owned))
  pub shown : (p word : ℕ) → places p ≡ Some word → Contains (flat_map slot_references t.frames) (at p) → IsTrue (finset.contains counts.shown word)
