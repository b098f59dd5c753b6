-- What barriers do. Only a heap that counts references tells counts; in the others they do nothing.
use Rattle.std.specs.Prelude.{◌≡◌, ℕ, ◌+◌, ◌-◌, ◌*◌, ◌<◌, ◌%◌, List, ◌⊎◌, ◌==◌, ◌&&◌, not, if◌then◌else◌, Bool, Option, Some, None}
use Rattle.std.specs.FinMap as finite
use Rattle.std.specs.FinSet as finset
use Rattle.std.specs.FinSet.{FinSet}
use Rattle.std.specs.Ordering.{nat_cmp}
use Rattle.gc_memory.specs.Words.{u64_at}
use Rattle.gc_memory.specs.Offsets.{count_offset}
use Rattle.gc_view.specs.Bytes.{u32_at}
use Rattle.gc_view.specs.Heaps.{HeapView, Counts}
use Rattle.gc_heap.specs.Content.{IsHeld}

-- a word that a barrier may be given: a 31-bit number, or the place of a held object
abbrev pub IsNamed : HeapView → ℕ → Type 0
IsNamed h word = (word % 2 ≡ 1) ⊎ IsHeld h word

-- where the place is counted, its count is below a number
abbrev pub IsCountedBelow : ℕ → HeapView → ℕ → Type 0
IsCountedBelow bound h place = (n : ℕ) → finite.get h.counts.counted place ≡ Some n → n < bound

-- where the place is counted, something names it
abbrev pub IsCounted : HeapView → ℕ → Type 0
IsCounted h place = (n : ℕ) → finite.get h.counts.counted place ≡ Some n → 0 < n

-- a count of a heap may rise while it is below this number, since the count word also counts the
-- list of shown words and the queue
abbrev pub count_limit : ℕ
count_limit = 18446744073709551613

-- the counts with another number at a place
abbrev pub with_count : Counts → ℕ → ℕ → Counts
with_count c place n = record c { counted = finite.insert c.counted place n }

-- one more name, where the place is counted
abbrev pub raise : Option ℕ → ℕ → Counts → Counts
raise None place c = c
raise (Some n) place c = with_count c place (n + 1)

-- the place is neither shown nor queued, so its count word is its count
abbrev pub is_alone : Counts → ℕ → Bool
is_alone c place = not (finset.contains c.shown place) && not (finset.contains c.queued place)

-- One name less, where the place is counted. An object whose count word would come to 0 is queued.
abbrev pub lower : Option ℕ → ℕ → Counts → Counts
lower None place c = c
lower (Some n) place c = record c {
  counted = finite.insert c.counted place (n - 1);
  queued = (if (n == 1) && is_alone c place then finset.insert c.queued place else c.queued);
}

-- One name less, which the list of shown words takes over, where the place is counted.
abbrev pub show : Option ℕ → ℕ → Counts → Counts
show None place c = c
show (Some n) place c = record c {
  counted = finite.insert c.counted place (n - 1);
  shown = finset.insert c.shown place;
}

-- the heap after a word was cloned, dropped, or shown to a frame slot
abbrev pub cloned : HeapView → ℕ → HeapView
cloned h word = record h { counts = raise (finite.get h.counts.counted word) word h.counts }

abbrev pub dropped : HeapView → ℕ → HeapView
dropped h word = record h { counts = lower (finite.get h.counts.counted word) word h.counts }

abbrev pub exposed : HeapView → ℕ → HeapView
exposed h word = record h { counts = show (finite.get h.counts.counted word) word h.counts }

-- the heap after a slot took a copy of another, and after a slot lost what it held
abbrev pub copied : HeapView → Option ℕ → HeapView
copied h None = h
copied h (Some word) = cloned h word

abbrev pub emptied : HeapView → Option ℕ → HeapView
emptied h None = h
emptied h (Some word) = dropped h word

-- the heap after a slot was overwritten: its source is raised before what it held is lowered
abbrev pub overwritten : HeapView → Option ℕ → Option ℕ → HeapView
overwritten h destination source = emptied (copied h source) destination

-- A barrier that makes one more name of a word may be called with it.
pub record CanName (h : HeapView) (word : ℕ) : Type 0 where
  pub named : IsNamed h word
  pub below : IsCountedBelow count_limit h word

-- A barrier that takes a name of a word away may be called with it.
pub record CanUnname (h : HeapView) (word : ℕ) : Type 0 where
  pub named : IsNamed h word
  pub counted : IsCounted h word

-- the same of slots
abbrev pub CanNameSlot : HeapView → Option ℕ → Type 0
CanNameSlot h None = Unit {0}
CanNameSlot h (Some word) = CanName h word

abbrev pub CanUnnameSlot : HeapView → Option ℕ → Type 0
CanUnnameSlot h None = Unit {0}
CanUnnameSlot h (Some word) = CanUnname h word

-- 1 where the place is in the set, else 0
abbrev pub one_in : FinSet nat_cmp → ℕ → ℕ
one_in places place = if finset.contains places place then 1 else 0

-- The bytes of a heap show the count of a counted place: its count word is the count, plus 1 where the
-- object is on the list of shown words, plus 1 where it is queued, and above 0; of the heap's own three
-- spare bits, from the lowest on, the first is clear (not marked), and the others tell these two.
pub record ShowsCount (h : HeapView) (bytes : List ℕ) (place n : ℕ) : Type 0 where
  pub word : u64_at bytes (place + count_offset) ≡ n + one_in h.counts.shown place + one_in h.counts.queued place
  pub positive : 0 < n + one_in h.counts.shown place + one_in h.counts.queued place
  pub flags : u32_at bytes place % 8 ≡ 2 * one_in h.counts.shown place + 4 * one_in h.counts.queued place
