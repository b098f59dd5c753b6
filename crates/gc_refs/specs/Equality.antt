-- What equality of references and of 31-bit numbers is.
use Rattle.std.specs.Prelude.{◌≡◌, ℕ, Bool, List, IsTrue, ◌↔◌}

-- two values are equal exactly where their numbers are, and equal values give a hasher the same bytes
pub record IsOfNumbers (eq : ℕ → ℕ → Bool) (hash_input : ℕ → List (List ℕ)) : Type 0 where
  pub equal : (a b : ℕ) → IsTrue (eq a b) ↔ (a ≡ b)
  pub alike : (a b : ℕ) → IsTrue (eq a b) → hash_input a ≡ hash_input b
