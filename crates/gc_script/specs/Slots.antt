-- The registers and the scope marks of a runner.
use Rattle.std.specs.Prelude.{ℕ, List, [], Option, Some, None, slice_get}
use Rattle.gc_values.specs.declared.root.RawValue.{RawValue}

-- what a runner has beside its registers: its owned registers, and the numbers of roots with which its open scopes were
-- entered, the oldest first
pub record RunnerRest : Type 0 where
  pub owned : List (Option RawValue)
  pub marks : List ℕ

pub record RunnerView : Type 0 where
  pub registers : List (Option RawValue)
  pub rest : RunnerRest

-- the runner with these registers, and that rest
abbrev pub with_registers : List (Option RawValue) → RunnerRest → RunnerView
with_registers registers rest = record { registers = registers; rest = rest }

abbrev pub new_runner : RunnerView
new_runner = record { registers = []; rest = record { owned = []; marks = [] } }

-- an option of an option
abbrev pub option_join : {X : Type 0} → Option (Option X) → Option X
option_join None = None
option_join (Some x) = x

-- what a register holds; those past the end are unset
abbrev pub register_at : List (Option RawValue) → ℕ → Option RawValue
register_at slots d = option_join (slice_get slots d)
