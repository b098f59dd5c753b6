-- The memory that the free runs of a list take.
use Rattle.std.specs.Prelude.{ℕ, refl}
use Rattle.std.specs.Coded.{Coded, code_by, coded×, coded_ℕ}
use denote.RawPtr.{Ptr, coded_ptr}

-- where the block of each order lies, and how many runs it has room for
pub record Memory : Type 0 where
  pub by_place : Ptr
  pub by_place_room : ℕ
  pub by_length : Ptr
  pub by_length_room : ℕ

abbrev pub memory_code : Coded Memory
memory_code =
    code_by ((Ptr × ℕ) × (Ptr × ℕ)) (coded× (coded× coded_ptr coded_ℕ) (coded× coded_ptr coded_ℕ))
    (λ m. ((m.by_place, m.by_place_room), (m.by_length, m.by_length_room)))
    (λ p. record { by_place = p.0.0; by_place_room = p.0.1; by_length = p.1.0; by_length_room = p.1.1 }) (λ _. refl)
