-- Ids of stores.
use Rattle.std.specs.Prelude.{ℕ}

-- an engine's number, and how many ids it gave
pub record GivenIds : Type 0 where
  pub engine : ℕ
  pub given : ℕ
