-- A source and a sink in memory.
use Rattle.std.specs.Prelude.{ℕ, ◌<◌, ◌≤◌, List, [], ◌++◌, length, take, drop, Result, Ok, Err}
use Rattle.gcsh_top.specs.Counts.{Input, Output, fresh_input, fresh_output, saturated_sum}
use Rattle.gcsh_top.specs.Counts as counts

-- what a source has left, the numbers of the reads that fail, and how many reads there were
pub record SourceState : Type 0 where
  pub left : List ℕ
  pub failing : List ℕ
  pub calls : ℕ
  pub counts : Input

-- a source that wasn't read yet
abbrev pub fresh_source : List ℕ → List ℕ → SourceState
fresh_source bytes failing = record { left = bytes; failing = failing; calls = 0; counts = fresh_input }

-- what a read with this answer takes
abbrev pub rest_after : {E : Type 0} → List ℕ → Result ℕ E → List ℕ
rest_after left (Ok n) = drop n left
rest_after left (Err e) = left

-- the source after a read into this buffer with this answer
abbrev pub source_after_read : {E : Type 0} → SourceState → List ℕ → Result ℕ E → SourceState
source_after_read s buf r = record { left = rest_after s.left r; failing = s.failing; calls = saturated_sum s.calls 1; counts = counts.input_after_read s.counts buf r }

-- what a sink holds, how many bytes it has room for, the numbers of the writes that fail (0 for a
-- flush), and how many writes there were
pub record SinkState : Type 0 where
  pub held : List ℕ
  pub room : ℕ
  pub failing : List ℕ
  pub calls : ℕ
  pub counts : Output

-- a sink that holds nothing yet
abbrev pub fresh_sink : ℕ → List ℕ → SinkState
fresh_sink room failing = record { held = []; room = room; failing = failing; calls = 0; counts = fresh_output }

-- some bytes are to be written and no room is left
abbrev pub IsSinkFull : SinkState → List ℕ → Type 0
IsSinkFull s bytes = (s.room ≤ length s.held) × (0 < length bytes)

-- what is held after a write of these bytes with this answer
abbrev pub held_after_write : {E : Type 0} → List ℕ → List ℕ → Result ℕ E → List ℕ
held_after_write held bytes (Ok n) = held ++ take n bytes
held_after_write held bytes (Err e) = held

-- the sink after a write of these bytes with this answer
abbrev pub sink_after_write : {E : Type 0} → SinkState → List ℕ → Result ℕ E → SinkState
sink_after_write s bytes r = record { held = held_after_write s.held bytes r; room = s.room; failing = s.failing; calls = saturated_sum s.calls 1; counts = counts.after_write s.counts bytes r }

-- the sink after a flush with this answer
abbrev pub sink_after_flush : {A E : Type 0} → SinkState → Result A E → SinkState
sink_after_flush s r = record { held = s.held; room = s.room; failing = s.failing; calls = s.calls; counts = counts.after_flush s.counts r }
