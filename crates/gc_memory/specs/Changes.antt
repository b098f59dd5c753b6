-- What is as before in a memory, byte by byte.
use Rattle.std.specs.Prelude.{◌≡◌, ℕ, ◌+◌, ◌<◌, ◌≤◌, List, length, slice_index_or}

-- at most the n bytes from p on changed
pub record Wrote (before after : List ℕ) (p n : ℕ) : Type 0 where
  pub same_length : length after ≡ length before
  pub below : (j d : ℕ) → j < p → slice_index_or after j d ≡ slice_index_or before j d
  pub above : (j d : ℕ) → p + n ≤ j → slice_index_or after j d ≡ slice_index_or before j d

-- The bytes from lo up to hi of what lies at q in the one memory are those of what lies at p in the other.
pub record SameAcross (before : List ℕ) (p : ℕ) (after : List ℕ) (q lo hi : ℕ) : Type 0 where
  pub at : (j d : ℕ) → lo ≤ j → j < hi → slice_index_or after (q + j) d ≡ slice_index_or before (p + j) d
