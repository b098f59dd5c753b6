-- Bytes of a memory, and the numbers that lie in them.
use Rattle.std.specs.Prelude.{◌≡◌, ℕ, ◌+◌, ◌<◌, ◌≤◌, List, ◌++◌, take, drop, length, slice_index_or}
use Rattle.std.specs.Int.{w32, from_le_bytes, to_le_bytes}

-- the bytes with others at an offset
abbrev pub put_bytes : List ℕ → ℕ → List ℕ → List ℕ
put_bytes bytes at part = take at bytes ++ (part ++ drop (at + length part) bytes)

-- two memories of one length have the same bytes from lo up to hi
pub record SameBytes (before after : List ℕ) (lo hi : ℕ) : Type 0 where
  pub same_length : length after ≡ length before
  pub at : (j d : ℕ) → lo ≤ j → j < hi → slice_index_or after j d ≡ slice_index_or before j d

-- the 32-bit number that lies at an offset, its lowest byte first
abbrev pub u32_at : List ℕ → ℕ → ℕ
u32_at bytes offset = from_le_bytes w32 (take 4 (drop offset bytes))

-- the bytes with that 32-bit number at an offset
abbrev pub put_u32 : List ℕ → ℕ → ℕ → List ℕ
put_u32 bytes offset n = take offset bytes ++ (to_le_bytes w32 n ++ drop (offset + 4) bytes)
