-- How the logic stores runs.
use Rattle.std.specs.Prelude.{List, ℕ, refl}
use Rattle.std.specs.Coded.{Coded, code_by, coded×, coded_ℕ, coded_list}
use Rattle.gc_free.specs.declared.run.Run.{Run}

-- a run is stored as the pair of its fields
abbrev pub run_code : Coded Run
run_code =
    code_by (ℕ × ℕ) (coded× coded_ℕ coded_ℕ) (λ r. (r.place, r.length)) (λ p. record { place = p.0; length = p.1 }) (λ _. refl)

abbrev pub runs_code : Coded (List Run)
runs_code = coded_list run_code
