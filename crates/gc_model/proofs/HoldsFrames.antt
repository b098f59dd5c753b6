-- A store of which a frame was opened or closed, or a slot set, holds the table with the same done.
use Rattle.std.proofs.Common.{ℕ}
use Rattle.gc_types.specs.declared.kind.Layouts.{Layouts}
use Rattle.gc_view.specs.Heaps.{HeapView}
use Rattle.gc_owner.specs.declared.entry.GcClass.{GcClass}
use Rattle.gc_owner.specs.RootColumns.{empty_slot as empty_entry}
use Rattle.gc_model.specs.Values.{Reference}
use Rattle.gc_model.specs.Table.{Table}
use Rattle.gc_model.specs.Frames.{opened, closed, changed, push_frame, pop_frame, set_slot}
use Rattle.gc_model.specs.Stores.{StoreView}
use Rattle.gc_model.specs.Holds.{Placing, IsWord, Holds}
use Rattle.gc_model.proofs.HoldsParts.{SameHeld, holds_same, frames_changed}
use Rattle.gc_model.proofs.FramesSet.{frames-opened, frames-closed, frames-changed}

-- the store with one more frame, without the newest, and with a slot of the newest set
abbrev pub with_frame : {D : Type 0} → ℕ → StoreView D → StoreView D
with_frame count s = record s { frames = opened count empty_entry s.frames }

abbrev pub without_frame : {D : Type 0} → StoreView D → StoreView D
without_frame s = record s { frames = closed s.frames }

abbrev pub with_slot : {D : Type 0} → ℕ → GcClass → ℕ → HeapView → StoreView D → StoreView D
with_slot index class word heap s = record s { heap = heap; frames = changed index (record { class = class; word = word }) s.frames }

module _ {D : Type 0} (layouts : Layouts) (s : StoreView D) (t : Table D) (place : Placing) (holds : Holds layouts s t place) where
  pub holds_frame_pushed : (count : ℕ) → Holds layouts (with_frame count s) (push_frame count t) place
  holds_frame_pushed count = frames_changed holds (frames-opened place t.frames s.frames holds.frames count)

  pub holds_frame_popped : Holds layouts (without_frame s) (pop_frame t) place
  holds_frame_popped = frames_changed holds (frames-closed place t.frames s.frames holds.frames)

  -- where the word is that of the reference, in a heap that holds the same
  pub holds_slot_set : (index : ℕ) (class : GcClass) (r : Reference) (word : ℕ) (heap : HeapView) → IsWord place r word → SameHeld s.heap heap → Holds layouts (with_slot index class word heap s) (set_slot index class r t) place
  holds_slot_set index class r word heap is same = frames_changed (holds_same layouts s t place heap holds same) (frames-changed place t.frames s.frames holds.frames index class r word is)
