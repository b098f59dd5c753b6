-- Freed places and the runs that they touch.
use Rattle.std.specs.Prelude.{◌+◌, min, cond, Option, Some, None, List, find}
use Rattle.gc_free.specs.declared.run.Run.{Run}
use Rattle.gc_free.specs.Runs.{run, end_of, insert_run, without, begins_at, ends_at}
use Rattle.gc_free.specs.Space.{touches}

-- two runs that touch, as one
abbrev pub join : Run → Run → Run
join a b = run (min a.place b.place) (a.length + b.length)

-- a run with another that touches it, if there is one
abbrev pub join_if_any : Run → Option Run → Run
join_if_any a None = a
join_if_any a (Some b) = join a b

-- the runs that don't touch the freed places, apart from any current run
abbrev pub apart_from : Run → List Run → List Run
apart_from freed runs = without (begins_at (end_of freed)) (without (ends_at freed.place) runs)

-- the freed places with the runs that touch them
abbrev pub joined : Run → List Run → Run
joined freed runs = join_if_any (join_if_any freed (find (ends_at freed.place) runs)) (find (begins_at (end_of freed)) (without (ends_at freed.place) runs))

-- the runs once the freed places are among them, apart from any current run
abbrev pub merged : Run → List Run → List Run
merged freed runs = insert_run (joined freed runs) (apart_from freed runs)

-- the current run, which takes them in where they touch it
abbrev pub current_after : Run → Option Run → List Run → Option Run
current_after freed None runs = None
current_after freed (Some c) runs = cond (touches freed c) (Some (join (joined freed runs) c)) (Some c)

-- the other runs, which they join where they don't touch the current one
abbrev pub others_after : Run → Option Run → List Run → List Run
others_after freed None runs = merged freed runs
others_after freed (Some c) runs = cond (touches freed c) (apart_from freed runs) (merged freed runs)
