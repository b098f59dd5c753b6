-- The space of a free list: its capacity, the held blocks and the current run. The free runs are what the blocks leave.
use Rattle.std.specs.Prelude.{ℕ, ◌≡◌, ◌+◌, ◌-◌, ◌*◌, ◌/◌, ◌%◌, ◌^◌, ◌<◌, ◌==◌, ◌⊎◌, ◌||◌, ◌&&◌, nat_lt, nat_le, min, max, cond, Bool, Option, Some, None, List, [], ◌∷◌, find, MatchOption, All, IsNone, IfSome, ◌↔◌, refl}
use Rattle.std.specs.Coded.{Coded, code_by, coded×, coded_ℕ, coded_option}
use Rattle.gc_free.specs.declared.run.Run.{Run}
use Rattle.gc_free.specs.declared.run.TheConstants.{ALIGN}
use Rattle.gc_free.specs.Coding.{run_code, runs_code}
use Rattle.gc_free.specs.Runs.{run, end_of, gap, gaps, insert_run, without, begins_at, IsSpread}
use Rattle.gc_free.specs.Orders.{shortest_fit}

-- the bytes of capacity, the held blocks by rising place, and the run that blocks are taken from first.
-- A current run of no places is one that was used up whole, and stands at its end
pub record Space : Type 0 where
  pub capacity : ℕ
  pub held : List Run
  pub current : Option Run

abbrev pub space_code : Coded Space
space_code =
    code_by (ℕ × (List Run × Option Run)) (coded× coded_ℕ (coded× runs_code (coded_option run_code))) (λ s. (s.capacity, (s.held, s.current)))
    (λ p. record { capacity = p.0; held = p.1.0; current = p.1.1 }) (λ _. refl)

-- the managed places end here: at the capacity, or at the greatest u32, rounded down to whole places
abbrev pub places_end : ℕ → ℕ
places_end capacity = min capacity (2 ^ 32 - 1) / ALIGN * ALIGN

-- every maximal run of managed places that no held block covers, by rising place
abbrev pub free_runs : Space → List Run
free_runs s = gaps ALIGN (places_end s.capacity) s.held

-- the first of some runs
abbrev pub first_of_runs : List Run → Option Run
first_of_runs [] = None
first_of_runs (r ∷ rs) = Some r

-- a new space, whose one run is the current one
abbrev pub new_space : ℕ → Space
new_space capacity = record { capacity = capacity; held = []; current = first_of_runs (gap ALIGN (places_end capacity)) }

-- PLACING

-- the block's place and the space with the block
pub record Taken : Type 0 where
  pub place : Option ℕ
  pub space : Space

-- what is left of a run behind a block of a size at its front
abbrev pub run_rest : ℕ → Run → Run
run_rest size r = run (r.place + size) (r.length - size)

-- a run, if it has any places
abbrev pub if_any : Run → Option Run
if_any r = cond (nat_lt 0 r.length) (Some r) None

-- a block of a size is held at the front of a run, and another run is current
abbrev pub taken_from : ℕ → Space → Run → Option Run → Taken
taken_from size s r current =
    record { place = Some r.place; space = record { capacity = s.capacity; held = insert_run (run r.place size) s.held; current = current } }

-- the front of the shortest run that is long enough, whose rest becomes current; where none is, there is no current run
abbrev pub take_shortest : ℕ → Space → Option Run → Taken
take_shortest size s None = record { place = None; space = record { capacity = s.capacity; held = s.held; current = None } }
take_shortest size s (Some r) = taken_from size s r (if_any (run_rest size r))

-- the front of the current run where it is long enough, whose rest stays current, and else that of the shortest
abbrev pub take_from : ℕ → Space → Option Run → Taken
take_from size s None = take_shortest size s (shortest_fit size (free_runs s))
take_from size s (Some c) = cond (nat_le size c.length) (taken_from size s c (Some (run_rest size c))) (take_shortest size s (shortest_fit size (free_runs s)))

-- the placing rule
abbrev pub take : ℕ → Space → Taken
take size s = take_from size s s.current

-- what a call for a block of a size may answer: the place by the rule, none exactly where no free run is long enough
pub record IsTaken (size : ℕ) (s : Space) (answer : Option ℕ) : Type 0 where
  pub place : answer ≡ (take size s).place
  pub none : IsNone answer ↔ All (λ r. r.length < size) (free_runs s)
  pub aligned : IfSome answer (λ p. p % ALIGN ≡ 0)

-- MERGING

-- whether a run ends where another begins
abbrev pub touches : Run → Run → Bool
touches a b = (end_of a == b.place) || (end_of b == a.place)

-- whether a place lies in a run
abbrev pub covers : ℕ → Run → Bool
covers place r = nat_le r.place place && nat_lt place (end_of r)

-- the current run once some places became free, which now lie in a run: that run where they touch the current one
abbrev pub current_with : Run → Option Run → Option Run → Option Run
current_with freed None around = None
current_with freed (Some c) around = cond (touches freed c) around (Some c)

-- the merging rule: some places became free
abbrev pub merge : Run → Space → Space
merge freed s =
    record { capacity = s.capacity; held = s.held; current = current_with freed s.current (find (covers freed.place) (free_runs s)) }

-- a held block is given back
abbrev pub give : Run → Space → Space
give b s = merge b (record { capacity = s.capacity; held = without (begins_at b.place) s.held; current = s.current })

-- the new places merge, if there are any
abbrev pub merge_all : List Run → Space → Space
merge_all [] s = s
merge_all (r ∷ rs) s = merge r s

-- the capacity rises, and stops at the greatest usize
abbrev pub grow : ℕ → Space → Space
grow additional s =
    let capacity = min (s.capacity + additional) (2 ^ 64 - 1) in
    merge_all (gap (max ALIGN (places_end s.capacity)) (places_end capacity)) (record { capacity = capacity; held = s.held; current = s.current })

-- WHAT STAYS TRUE

-- a run, maybe of no places, is all that lies between two neighbours among the blocks, or a block and an end
abbrev pub IsBetween : Run → ℕ → ℕ → List Run → Type 0
IsBetween c from end [] = (c.place ≡ from) × (end_of c ≡ end)
IsBetween c from end (b ∷ bs) = ((c.place ≡ from) × (end_of c ≡ b.place)) ⊎ IsBetween c (end_of b) end bs

-- a run of whole places
abbrev pub IsAligned : Run → Type 0
IsAligned r = (r.place % ALIGN ≡ 0) × (r.length % ALIGN ≡ 0)

-- each block is one of whole places
abbrev pub AllAligned : List Run → Type 0
AllAligned [] = Unit {0}
AllAligned (b ∷ bs) = IsAligned b × AllAligned bs

-- what is true of every free list: the blocks lie apart in the managed places, and the current run is all that lies between two of them
pub record IsSound (s : Space) : Type 0 where
  pub fits : s.capacity < 2 ^ 64
  pub blocks : IsSpread ALIGN (places_end s.capacity) s.held
  pub aligned : AllAligned s.held
  pub current : MatchOption s.current (Unit {0}) (λ c. IsBetween c ALIGN (places_end s.capacity) s.held)
