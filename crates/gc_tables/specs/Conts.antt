-- The table of continuations.
use Rattle.std.specs.Prelude.{ℕ, suc, zero, Option, Some, None, option_map}
use Rattle.gc_tables.specs.SideTables.{SideTable, value_at}

-- what a number of the heap names: no continuation at 0, else the entry of the id one below
abbrev pub cont_at : SideTable ℕ → ℕ → Option (Option ℕ)
cont_at t zero = Some None
cont_at t (suc id) = option_map Some (value_at t id)
