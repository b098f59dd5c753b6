use Rattle.std.proofs.Common.{◌≡◌, ◌≤◌, ◌+◌, map, length}
use Rattle.gc_tables.specs.SideTables.{max_entries}
use Rattle.gc_tables.specs.Slots.{value_of, numbered}
use Rattle.gc_tables.proofs.iter.SlabIterIterator.next.Given as goal

-- only free places were passed over
abbrev pub invariant-loop-entry : goal.invariant-loop-entry
invariant-loop-entry g l =
    (l.self-inside.first + length l.self-inside.entries.now ≤ max_entries)
    × (numbered l.self-inside.first (map value_of l.self-inside.entries.now) ≡ l.fn.self)

abbrev pub decreases-loop-entry : goal.decreases-loop-entry
decreases-loop-entry g l = length l.self-inside.entries.now
