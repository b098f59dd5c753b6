-- The held blocks after a change.
use Rattle.std.specs.Prelude.{List}
use Rattle.gc_free.specs.declared.run.Run.{Run}
use Rattle.gc_free.specs.declared.held.Change.{Change}
use Rattle.gc_free.specs.declared.held.Change.TheVariants.{Taken, Given, Joined}
use Rattle.gc_free.specs.Runs.{insert_run, without, begins_at, joined_in}

-- a block that is taken is held, one that is given back no more, and two that are joined are held as one
abbrev pub held_after : Change → List Run → List Run
held_after (Taken b) held = insert_run b held
held_after (Given b) held = without (begins_at b.place) held
held_after (Joined a b) held = joined_in a b held
