-- Numbers that stand for chance where the program makes its own work: each by the one before it.
use Rattle.std.specs.Prelude.{ℕ, ◌+◌, ◌*◌, ◌%◌, suc, zero}

abbrev pub next_seed : ℕ → ℕ
next_seed seed = (seed * 1103515245 + 12345) % 2147483648

-- the seed of each of so many rounds, which are counted from 1: their number stands before the first
abbrev pub seed_of : ℕ → ℕ → ℕ
seed_of rounds zero = rounds
seed_of rounds (suc k) = next_seed (seed_of rounds k)
