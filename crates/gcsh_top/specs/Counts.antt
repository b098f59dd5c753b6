-- What every source and every sink tells: counts, and what its last call met.
use Rattle.std.specs.Prelude.{◌==◌, ℕ, ◌+◌, ◌-◌, ◌^◌, max, min, nat_lt, ◌&&◌, if◌then◌else◌, Bool, true, false, List, length, Result, Ok, Err}

-- a count of 64 bits raised by n: at its greatest value it stands still
abbrev pub saturated_sum : ℕ → ℕ → ℕ
saturated_sum count n = max count (min (count + n) (2 ^ 64 - 1))

-- no byte is given for a buffer that isn't empty
abbrev pub is_end : ℕ → List ℕ → Bool
is_end n buf = (n == 0) && nat_lt 0 (length buf)

-- a read with this answer met the end
abbrev pub met_end : {E : Type 0} → Result ℕ E → List ℕ → Bool
met_end (Ok n) buf = is_end n buf
met_end (Err e) buf = false

-- a write took none of some bytes
abbrev pub is_stuck : ℕ → List ℕ → Bool
is_stuck n bytes = (n == 0) && nat_lt 0 (length bytes)

-- how many reads of a source failed, how many bytes it gave, and whether its last read met the end
pub record Input : Type 0 where
  pub faults : ℕ
  pub given : ℕ
  pub ended : Bool

-- nothing was read yet
abbrev pub fresh_input : Input
fresh_input = record { faults = 0; given = 0; ended = false }

-- after a read into this buffer with this answer
abbrev pub input_after_read : {E : Type 0} → Input → List ℕ → Result ℕ E → Input
input_after_read i buf (Ok n) = record { faults = i.faults; given = saturated_sum i.given n; ended = is_end n buf }
input_after_read i buf (Err e) = record { faults = saturated_sum i.faults 1; given = i.given; ended = false }

-- how many calls of a sink failed, and whether its last call was a flush that succeeded
pub record Output : Type 0 where
  pub faults : ℕ
  pub flushed : Bool

-- nothing was written yet
abbrev pub fresh_output : Output
fresh_output = record { faults = 0; flushed = false }

-- after a write of these bytes with this answer
abbrev pub after_write : {E : Type 0} → Output → List ℕ → Result ℕ E → Output
after_write o bytes (Ok n) = record { faults = if is_stuck n bytes then saturated_sum o.faults 1 else o.faults; flushed = false }
after_write o bytes (Err e) = record { faults = saturated_sum o.faults 1; flushed = false }

-- after a flush with this answer
abbrev pub after_flush : {A E : Type 0} → Output → Result A E → Output
after_flush o (Ok _) = record { faults = o.faults; flushed = true }
after_flush o (Err e) = record { faults = saturated_sum o.faults 1; flushed = false }
