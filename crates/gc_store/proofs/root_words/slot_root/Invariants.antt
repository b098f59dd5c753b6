use Rattle.std.proofs.Common.{◌≡◌, List, drop}
use Rattle.std.specs.List.{slice_get}
use Rattle.gc_owner.specs.declared.entry.SlotEntry.{SlotEntry}
use Rattle.gc_store.specs.RootWords.{slot_roots}
use Rattle.gc_values.specs.SlotCounts.{slot_counts}
use Rattle.gc_store.proofs.root_words.slot_root.Given as goal

-- what the place holds lies in the frames from this one on
abbrev pub invariant-loop-frame : goal.invariant-loop-frame
invariant-loop-frame l = (frames : List (List SlotEntry)) → l.counts ≡ slot_counts frames
    → slice_get (slot_roots 0 frames) l.place ≡ slice_get (slot_roots l.frame (drop l.frame frames)) l.slot
