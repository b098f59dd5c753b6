-- Laws of the definitions, over every space and every list of calls.
use Rattle.std.specs.Prelude.{ℕ, ◌≡◌, ◌+◌, ◌-◌, ◌%◌, ◌^◌, ◌<◌, ◌≤◌, nat_lt, nat_le, ◌&&◌, not, false, Some, List, [], ◌∷◌, length, Contains, sum_by}
use Rattle.std.specs.List.{list_any}
use Rattle.gc_free.specs.declared.run.Run.{Run}
use Rattle.gc_free.specs.declared.run.TheConstants.{ALIGN}
use Rattle.gc_free.specs.Runs.{end_of}
use Rattle.gc_free.specs.Space.{Space, places_end, free_runs, covers, touches, new_space, take, give, grow, IsSound}

-- a place is free exactly where it is managed and no held block covers it
abbrev pub FreeRunsAreTheRest : Type 0
FreeRunsAreTheRest =
    (s : Space) (place : ℕ) → IsSound s
    → list_any (covers place) (free_runs s) ≡ ((nat_le ALIGN place && nat_lt place (places_end s.capacity)) && not (list_any (covers place) s.held))

-- the runs have places, and between two of them there is always one that isn't free
abbrev pub FollowsApart : ℕ → List Run → Type 0
FollowsApart place [] = Unit {0}
FollowsApart place (r ∷ rs) = place < r.place

abbrev pub StandApart : List Run → Type 0
StandApart [] = Unit {0}
StandApart (r ∷ rs) = (0 < r.length) × FollowsApart (end_of r) rs × StandApart rs

abbrev pub FreeRunsAreMaximal : Type 0
FreeRunsAreMaximal = (s : Space) → IsSound s → StandApart (free_runs s)

-- free and held bytes add up to the managed bytes
abbrev pub bytes_in_runs : List Run → ℕ
bytes_in_runs rs = sum_by (λ r. r.length) rs

abbrev pub BytesAddUp : Type 0
BytesAddUp = (s : Space) → IsSound s → bytes_in_runs (free_runs s) + bytes_in_runs s.held ≡ places_end s.capacity - ALIGN

-- once all blocks are back, there is at most one run
abbrev pub AllBackLeavesOneRun : Type 0
AllBackLeavesOneRun = (s : Space) → s.held ≡ [] → length (free_runs s) ≤ 1

-- a current run with places is one of the free runs
abbrev pub CurrentRunIsFree : Type 0
CurrentRunIsFree = (s : Space) (c : Run) → IsSound s → s.current ≡ Some c → 0 < c.length → Contains (free_runs s) c

-- no free run touches the place of a current run that was used up whole
abbrev pub UsedUpRunStandsApart : Type 0
UsedUpRunStandsApart = (s : Space) (c : Run) → IsSound s → s.current ≡ Some c → c.length ≡ 0 → list_any (touches c) (free_runs s) ≡ false

-- CALLS

-- what may be asked of a free list
pub data Call : Type 0 where
  Take : (size : ℕ) → Call
  Give : (block : Run) → Call
  Grow : (additional : ℕ) → Call

-- the space after a call
abbrev pub after : Call → Space → Space
after (Take size) s = (take size s).space
after (Give block) s = give block s
after (Grow additional) s = grow additional s

-- a size is one of whole places, and only a held block is given back
abbrev pub IsAllowed : Call → Space → Type 0
IsAllowed (Take size) s = (size % ALIGN ≡ 0) × (0 < size)
IsAllowed (Give block) s = Contains s.held block
IsAllowed (Grow additional) s = Unit {0}

-- the space after some calls, and that each is allowed when it comes
abbrev pub after_all : List Call → Space → Space
after_all [] s = s
after_all (call ∷ calls) s = after_all calls (after call s)

abbrev pub AreAllowed : List Call → Space → Type 0
AreAllowed [] s = Unit {0}
AreAllowed (call ∷ calls) s = IsAllowed call s × AreAllowed calls (after call s)

-- every list of calls keeps what is true of a new space
abbrev pub EveryListOfCallsIsSound : Type 0
EveryListOfCallsIsSound =
    (capacity : ℕ) (calls : List Call) → capacity < 2 ^ 64 → AreAllowed calls (new_space capacity) → IsSound (after_all calls (new_space capacity))

-- BATCHES

-- the space once some blocks were given back one after another, and that each is held when it is given back
abbrev pub give_all : List Run → Space → Space
give_all [] s = s
give_all (b ∷ bs) s = give_all bs (give b s)

abbrev pub AreHeld : List Run → Space → Type 0
AreHeld [] s = Unit {0}
AreHeld (b ∷ bs) s = Contains s.held b × AreHeld bs (give b s)

-- another order of the same blocks, by exchanges of neighbours
pub data IsReordered : List Run → List Run → Type 0 where
  nothing : IsReordered [] []
  later : (b : Run) (bs cs : List Run) → IsReordered bs cs → IsReordered (b ∷ bs) (b ∷ cs)
  exchanged : (a b : Run) (bs : List Run) → IsReordered (a ∷ b ∷ bs) (b ∷ a ∷ bs)
  both : (xs ys zs : List Run) → IsReordered xs ys → IsReordered ys zs → IsReordered xs zs

-- the order in which a batch is given back changes nothing
abbrev pub OrderOfGivingBackIsNothing : Type 0
OrderOfGivingBackIsNothing = (s : Space) (bs cs : List Run) → IsSound s → AreHeld bs s → IsReordered bs cs → give_all bs s ≡ give_all cs s
