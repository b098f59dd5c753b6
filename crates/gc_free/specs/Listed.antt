-- The free runs in the order in which a free list tells them.
use Rattle.std.specs.Prelude.{ℕ, ◌==◌, cond, Option, Some, None, List, [], ◌∷◌, ◌++◌, map, find, option_map}
use Rattle.std.specs.Coded.{Coded, coded×, coded_ℕ, coded_list}
use Rattle.gc_free.specs.declared.run.Run.{Run}
use Rattle.gc_free.specs.Runs.{without, begins_at}
use Rattle.gc_free.specs.Space.{Space, free_runs, if_any}
use Rattle.gc_free.specs.Kept.{is_current}

-- a run as its place and its length
abbrev pub pair_of : Run → ℕ × ℕ
pair_of r = (r.place, r.length)

abbrev pub pairs_code : Coded (List (ℕ × ℕ))
pairs_code = coded_list (coded× coded_ℕ coded_ℕ)

-- some runs, and another behind them if there is one
abbrev pub with_last : List Run → Option Run → List Run
with_last runs None = runs
with_last runs (Some r) = runs ++ r ∷ []

-- the current run, if it has any places
abbrev pub current_run : Option Run → Option Run
current_run None = None
current_run (Some c) = if_any c

-- each free run as its place and its length, by rising place with the current run last
abbrev pub listed : Space → List (ℕ × ℕ)
listed s = map pair_of (with_last (without (is_current s.current) (free_runs s)) (current_run s.current))

-- the current run, if it begins at a place and has any
abbrev pub current_at : ℕ → Option Run → Option Run
current_at place None = None
current_at place (Some c) = cond (c.place == place) (if_any c) None

-- the length of the free run that begins at a place
abbrev pub run_length_at : ℕ → Space → Option ℕ
run_length_at place s = option_map (λ r. r.length) (find (begins_at place) (free_runs s))
