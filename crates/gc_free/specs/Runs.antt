-- Runs of places, and the gaps that blocks leave between two places.
use Rattle.std.specs.Prelude.{ℕ, ◌+◌, ◌-◌, ◌<◌, ◌≤◌, ◌==◌, nat_lt, not, cond, Bool, List, [], ◌∷◌, ◌++◌, filter}
use Rattle.gc_free.specs.declared.run.Run.{Run}

-- the run of these many places from this one on
abbrev pub run : ℕ → ℕ → Run
run place length = record { place = place; length = length }

-- the place after a run's last
abbrev pub end_of : Run → ℕ
end_of r = r.place + r.length

-- non-empty runs, one after another, in the places from `low` up to `high`
abbrev pub IsSpread : ℕ → ℕ → List Run → Type 0
IsSpread low high [] = Unit {0}
IsSpread low high (r ∷ rs) = (low ≤ r.place) × (0 < r.length) × (end_of r ≤ high) × IsSpread (end_of r) high rs

-- the run from one place up to another, if there is any place between them
abbrev pub gap : ℕ → ℕ → List Run
gap from to = cond (nat_lt from to) (run from (to - from) ∷ []) []

-- the maximal runs of places in `from` up to `end` that none of the rising blocks covers
abbrev pub gaps : ℕ → ℕ → List Run → List Run
gaps from end [] = gap from end
gaps from end (b ∷ bs) = gap from b.place ++ gaps (end_of b) end bs

-- a run put before the first that isn't below it by a key
abbrev pub insert_by : (Run → ℕ) → Run → List Run → List Run
insert_by key r [] = r ∷ []
insert_by key r (x ∷ xs) = cond (nat_lt (key x) (key r)) (x ∷ insert_by key r xs) (r ∷ x ∷ xs)

-- without the first run whose key isn't below this one
abbrev pub remove_by : (Run → ℕ) → ℕ → List Run → List Run
remove_by key k [] = []
remove_by key k (x ∷ xs) = cond (nat_lt (key x) k) (x ∷ remove_by key k xs) xs

-- a run put among others by its place
abbrev pub insert_run : Run → List Run → List Run
insert_run r rs = insert_by (λ x. x.place) r rs

-- whether a run begins at a place, and whether it ends before it
abbrev pub begins_at : ℕ → Run → Bool
begins_at place r = r.place == place

abbrev pub ends_at : ℕ → Run → Bool
ends_at place r = end_of r == place

-- the others than those that pass a test
abbrev pub without : (Run → Bool) → List Run → List Run
without test rs = filter (λ r. not (test r)) rs

-- the run of two that touch, the lower first
abbrev pub as_one : Run → Run → Run
as_one a b = run a.place (a.length + b.length)

-- among rising blocks two that touch, the lower first, as one
abbrev pub joined_in : Run → Run → List Run → List Run
joined_in a b [] = []
joined_in a b (x ∷ xs) = cond (x.place == a.place) (as_one a b ∷ without (begins_at b.place) xs) (x ∷ joined_in a b xs)
