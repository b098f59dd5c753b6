-- Blocks that were given back and wait, in runs, for the list to take them.
use Rattle.std.specs.Prelude.{ℕ, ◌≡◌, ◌≤◌, ◌⊎◌, None, List, [], ◌∷◌, length}
use Rattle.gc_free.specs.declared.run.Run.{Run}
use Rattle.gc_free.specs.declared.batched.TheConstants.{MOST_WAITING}
use Rattle.gc_free.specs.Runs.{end_of, joined_in}
use Rattle.gc_free.specs.Space.{Space, IsSound}
use Rattle.gc_free.specs.Laws.{give_all, AreHeld}

-- a space in which two held blocks that touch are held as one
abbrev pub with_joined : Run → Run → Space → Space
with_joined a b s = record { capacity = s.capacity; held = joined_in a b s.held; current = s.current }

-- runs may wait where each is held when it is given back, and no run is current
pub record CanWait (waiting : List Run) (s : Space) : Type 0 where
  pub sound : IsSound s
  pub held : AreHeld waiting s
  pub idle : s.current ≡ None

-- no run ends behind a place
abbrev pub EndBy : ℕ → List Run → Type 0
EndBy high [] = Unit {0}
EndBy high (r ∷ rs) = (end_of r ≤ high) × EndBy high rs

-- the runs that wait after stand for what those before did, and none ends later than all of those
pub record StandsFor (before : List Run) (s : Space) (after : List Run) (t : Space) : Type 0 where
  pub same : give_all after t ≡ give_all before s
  pub can_wait : CanWait after t
  pub ends : (high : ℕ) → EndBy high before → EndBy high after

-- what is true of the runs that wait, of a place that none ends behind, of the room for them, and of the list's space
pub record KeepsWaiting (waiting : List Run) (highest room : ℕ) (s : Space) : Type 0 where
  pub sound : IsSound s
  pub waits : (waiting ≡ []) ⊎ CanWait waiting s
  pub ends : EndBy highest waiting
  pub few : length waiting ≤ MOST_WAITING
  pub has_room : MOST_WAITING ≤ room
