-- Registers after one more was added, unset.
use Rattle.std.proofs.Common.{◌≡◌, ℕ, ◌≤◌, List, [], ◌∷◌, ◌++◌, length, Option, None, refl, zero, suc}
use Rattle.gc_script.specs.Slots.{register_at}
use Rattle.gc_values.specs.declared.root.RawValue.{RawValue}

-- an unset register at the end changes none
pub register_at-push : (slots : List (Option RawValue)) (d : ℕ) → register_at (slots ++ None ∷ []) d ≡ register_at slots d
register_at-push [] zero = refl
register_at-push [] (suc d) = refl
register_at-push (x ∷ slots) zero = refl
register_at-push (x ∷ slots) (suc d) = register_at-push slots d

-- the registers so far are those of before, and there are so many
pub record ExtendedTo (before now : List (Option RawValue)) (present count : ℕ) : Type 0 where
  pub same : (d : ℕ) → register_at now d ≡ register_at before d
  pub many : count ≤ length now
