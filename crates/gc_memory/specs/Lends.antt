-- What a memory ends as, where its bytes are lent for writing.
use Rattle.std.specs.Prelude.{ℕ, List, ◌++◌, length, take, drop}
use Rattle.std.specs.Borrow.{Lends, Fml, MutBor, Array, u8}
use Rattle.gc_memory.specs.contracts.memory.HeapMemory.{the_row}

-- The bytes with others in their place. A borrower can't change their number, so these are the others.
abbrev pub bytes_replaced : List ℕ → List ℕ → List ℕ
bytes_replaced before now = take (length before) (now ++ drop (length now) before)

-- once the borrow r ends, the memory has the bytes that r had last
abbrev pub LendsBytes : MutBor (List ℕ) → MutBor (List ℕ) → Fml
LendsBytes memory r = Lends the_row (Array u8 0) memory r (bytes_replaced memory.now)
