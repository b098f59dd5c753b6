-- What a free list keeps of the space that it stands for.
use Rattle.std.specs.Prelude.{ℕ, ◌≡◌, ◌<◌, Bool, false, Option, Some, None, List, length}
use Rattle.gc_free.specs.declared.run.Run.{Run}
use Rattle.gc_free.specs.Runs.{without, begins_at}
use Rattle.gc_free.specs.Space.{Space, IsSound, free_runs}

-- whether a run is the current one
abbrev pub is_current : Option Run → Run → Bool
is_current None r = false
is_current (Some c) r = begins_at c.place r

-- the other runs are kept, with room for as many as the blocks can leave
pub record KeepsRuns (s : Space) (runs : List Run) (room blocks : ℕ) : Type 0 where
  pub sound : IsSound s
  pub others : runs ≡ without (is_current s.current) (free_runs s)
  pub count : blocks ≡ length s.held
  pub has_room : length s.held < room
