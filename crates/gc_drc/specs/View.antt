-- A counting heap by lists, and what its memory shows of it.
use Rattle.std.specs.Prelude.{◌≡◌, ℕ, ◌+◌, ◌*◌, ◌%◌, ◌<◌, ◌≤◌, List, [], ◌∷◌, map, length}
use Rattle.gc_memory.specs.Words.{word}
use Rattle.gc_memory.specs.Lists.{In, occ, sum_over}
use Rattle.gc_view.specs.Pages.{page, max_pages}
use Rattle.gc_free.specs.declared.run.Run.{Run}
use Rattle.gc_free.specs.Runs.{run}
use Rattle.gc_free.specs.Space.{IsSound}
use Rattle.gc_drc.specs.declared.space.CountedSpace.{CountedSpace}
use Rattle.gc_drc.specs.Layout.{count_at, counting_size_at, block_of, flags_at, IsCountingWhole}

-- The places of the objects by rising place; those on the list of shown words and those queued to be
-- freed, from the head of each list on; those that are marked; how often each place is named, and how
-- many bytes each object has.
pub record View : Type 0 where
  pub places : List ℕ
  pub shown : List ℕ
  pub queue : List ℕ
  pub marked : List ℕ
  pub counted : ℕ → ℕ
  pub sizes : ℕ → ℕ

-- the count word of a place: its names, and one for each of the two lists that it is on
abbrev pub count_of : View → ℕ → ℕ
count_of v x = v.counted x + occ x v.shown + occ x v.queue

-- its flags
abbrev pub flags_of : View → ℕ → ℕ
flags_of v x = occ x v.marked + 2 * occ x v.shown + 4 * occ x v.queue

-- the block of an object
abbrev pub block_at : (ℕ → ℕ) → ℕ → Run
block_at sizes place = run place (block_of (sizes place))

-- These places are linked, from the first number on, through the words at an offset. The last link is 0.
pub data Linked (bytes : List ℕ) (offset : ℕ) : ℕ → List ℕ → Type 0 where
  last : Linked bytes offset 0 []
  link : {p : ℕ} {ps : List ℕ} → 0 < p → Linked bytes offset (word bytes (p + offset)) ps → Linked bytes offset p (p ∷ ps)

-- a list has some of the places, each once
pub record IsPart (places list : List ℕ) : Type 0 where
  pub inside : (p : ℕ) → In p list → In p places
  pub once : (p : ℕ) → occ p list ≤ 1

-- an object of that size, count word and flags stands at a place; the count is never 0
pub record ShowsObject (bytes : List ℕ) (place size count flags : ℕ) : Type 0 where
  pub whole : IsCountingWhole bytes place
  pub size_is : counting_size_at bytes place ≡ size
  pub count_is : count_at bytes place ≡ count
  pub positive : 0 < count
  pub flags_are : flags_at bytes place ≡ flags

-- The heap shows this view: the blocks of its free list are those of the objects, its words are theirs,
-- and the two lists are linked from their heads on.
pub record HoldsBlocks (v : View) (s : CountedSpace) : Type 0 where
  pub pages : length s.memory % page ≡ 0
  pub bound : length s.memory ≤ page * max_pages
  pub capacity : s.free.space.capacity ≡ length s.memory
  pub sound : IsSound s.free.space
  pub blocks : s.free.space.held ≡ map (block_at v.sizes) v.places
  pub objects : (p : ℕ) → In p v.places → ShowsObject s.memory p (v.sizes p) (count_of v p) (flags_of v p)
  pub shown_part : IsPart v.places v.shown
  pub queue_part : IsPart v.places v.queue
  pub marked_part : IsPart v.places v.marked
  pub shown_linked : Linked s.memory 16 s.shown v.shown
  pub queue_linked : Linked s.memory 24 s.queued v.queue
  pub count : s.objects ≡ length v.places
  pub allocated : s.allocated ≡ sum_over (λ p. block_of (v.sizes p)) v.places
