-- Numbers of several bytes in a memory.
use Rattle.std.specs.Prelude.{ℕ, ◌+◌, ◌<◌, List, ◌++◌, take, drop, slice_index_or}
use Rattle.std.specs.Int.{w64, from_le_bytes, to_le_bytes}
use Rattle.gc_view.specs.Bytes.{u32_at}

-- each number of the list is a byte
abbrev pub AreBytes : List ℕ → Type 0
AreBytes bytes = (j : ℕ) → slice_index_or bytes j 0 < 256

-- the 64-bit number that lies at an offset, its lowest byte first
abbrev pub u64_at : List ℕ → ℕ → ℕ
u64_at bytes offset = from_le_bytes w64 (take 8 (drop offset bytes))

-- the bytes with that 64-bit number at an offset
abbrev pub put_u64 : List ℕ → ℕ → ℕ → List ℕ
put_u64 bytes offset n = take offset bytes ++ (to_le_bytes w64 n ++ drop (offset + 8) bytes)

-- The word at a place. Proofs above this crate go by the laws of proofs/WordLemmas and don't unfold it.
unfoldable pub word : List ℕ → ℕ → ℕ
word bytes p = u32_at bytes p

-- the same of a number of 64 bits
unfoldable pub word64 : List ℕ → ℕ → ℕ
word64 bytes p = u64_at bytes p
