-- Counts that rise.
use Rattle.std.proofs.Common.{ℕ, ◌≤◌, arith}
use Rattle.gc_model.specs.Allocation.{Rose}

pub not_fallen : (a b c : ℕ) → a ≤ b → b ≤ c → a ≤ c
not_fallen a b c p q = omega arith

-- a count that rose later rose since the start
pub rose_since : (a b c : ℕ) → a ≤ b → Rose b c → Rose a c
rose_since a b c before rose = omega (arith, before, rose)
