-- The two lists that are threaded through the headers of a counting heap, as its bytes show them.
use Rattle.std.specs.Prelude.{◌≡◌, ℕ, ◌≤◌, List}
use Rattle.std.specs.Ordering.{nat_cmp}
use Rattle.std.specs.FinSet as finset
use Rattle.std.specs.FinSet.{FinSet}
use Rattle.gc_memory.specs.Lists.{occ}
use Rattle.gc_view.specs.Heaps.{HeapView}
use Rattle.gc_drc.specs.View.{Linked}

-- Exactly these places, each once, are linked through the word at an offset of each, from a first one on; the last
-- link is 0.
pub record IsThreaded (bytes : List ℕ) (offset : ℕ) (places : FinSet nat_cmp) : Type 0 where
  pub list : List ℕ
  pub are : places ≡ finset.from_list list
  pub once : (place : ℕ) → occ place list ≤ 1
  pub first : ℕ
  pub linked : Linked bytes offset first list

-- the list of shown words, through the word at 16 of each object on it, and that of the queued ones, through the
-- word at 24
pub record ThreadsLists (h : HeapView) (bytes : List ℕ) : Type 0 where
  pub shown : IsThreaded bytes 16 h.counts.shown
  pub queued : IsThreaded bytes 24 h.counts.queued
