-- What reads and writes do to the ends of a run: to the bytes that a source has left and to those
-- that a sink holds, where these are told.
use Rattle.std.specs.Prelude.{◌≡◌, ℕ, ◌<◌, Bool, List, length, take, drop, Option, IfSome}
use Rattle.std.specs.Io.KnownBytes.{Appends, Consumes}
use Rattle.gcsh_top.specs.Counts.{saturated_sum}

-- What a source tells: the bytes that it has left, where it tells them; how many reads failed, and how many bytes it
-- gave, each counted up to the greatest u64; and whether its last read gave no byte for a buffer that isn't empty.
pub record SourceTold : Type 0 where
  pub left : Option (List ℕ)
  pub faults : ℕ
  pub given : ℕ
  pub ended : Bool

-- what a source tells before and after a run
pub record SourceRun : Type 0 where
  pub before : SourceTold
  pub after : SourceTold

-- What a sink tells: the bytes that it holds, where it tells them; how many calls failed, counted up to the greatest
-- u64; and whether its last call was a flush that succeeded.
pub record SinkTold : Type 0 where
  pub held : Option (List ℕ)
  pub faults : ℕ
  pub flushed : Bool

-- what a sink tells before and after a run
pub record SinkRun : Type 0 where
  pub before : SinkTold
  pub after : SinkTold

-- The first n bytes of a buffer are the next of a source, which has them no longer; the rest of the
-- buffer is as it was.
pub record FillsBuffer (left left' : Option (List ℕ)) (buf buf' : List ℕ) (n : ℕ) : Type 0 where
  pub taken : Consumes left left' (take n buf')
  pub kept : IfSome left (λ _. drop n buf' ≡ drop n buf)

-- A source gave these bytes: it has them no longer, and its count of bytes rose by their number.
pub record Gave (source : SourceRun) (bytes : List ℕ) : Type 0 where
  pub taken : Consumes source.before.left source.after.left bytes
  pub counted : source.after.given ≡ saturated_sum source.before.given (length bytes)

-- a sink took a front of the bytes and not all of them
abbrev pub TookPart : Option (List ℕ) → Option (List ℕ) → List ℕ → Type 0
TookPart held held' bytes = (n : ℕ) × (n < length bytes) × Appends held held' (take n bytes)
