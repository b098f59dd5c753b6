-- How many slots frames have.
use Rattle.std.specs.Prelude.{ℕ, List, length, map}
use Rattle.gc_owner.specs.declared.entry.SlotEntry.{SlotEntry}

-- how many slots each frame has
abbrev pub slot_counts : List (List SlotEntry) → List ℕ
slot_counts frames = map length frames
