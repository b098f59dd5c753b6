-- What a clause sees of the free runs that stand in both orders.
use Rattle.std.specs.Prelude.{ℕ, List, Option, Some, None, refl}
use Rattle.std.specs.Coded.{Coded, code_by, coded×, coded_ℕ}
use Rattle.gc_free.specs.declared.run.Run.{Run}
use Rattle.gc_free.specs.Coding.{runs_code}
use Rattle.gc_free.specs.Memory.{Memory, memory_code}
use Rattle.gc_free.specs.Runs.{remove_by}

-- the runs by rising place, how many have room, and the memory that they lie in
pub record Ordered : Type 0 where
  pub runs : List Run
  pub room : ℕ
  pub memory : Memory

abbrev pub ordered_code : Coded Ordered
ordered_code =
    code_by (List Run × (ℕ × Memory)) (coded× runs_code (coded× coded_ℕ memory_code)) (λ s. (s.runs, (s.room, s.memory)))
    (λ p. record { runs = p.0; room = p.1.0; memory = p.1.1 }) (λ _. refl)

-- the runs that are left once one was taken out
abbrev pub without_found : Option Run → List Run → List Run
without_found None runs = runs
without_found (Some r) runs = remove_by (λ x. x.place) r.place runs
