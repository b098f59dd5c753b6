-- Frames are roots: opening one, closing the newest, setting and reading its slots.
use Rattle.std.specs.Prelude.{ℕ, ◌-◌, List, [], ◌∷◌, ◌++◌, Option, length, take, replicate, slice_get, slice_set, slice_index_or}
use Rattle.gc_owner.specs.declared.entry.GcClass.{GcClass}
use Rattle.gc_model.specs.Values.{Reference}
use Rattle.gc_model.specs.Table.{Table, Slot, null_slot}

-- the slots of the newest of some frames; none where there is no frame
abbrev pub newest : {A : Type 0} → List (List A) → List A
newest frames = slice_index_or frames (length frames - 1) []

-- the frames with a newer one of so many slots, each the same
abbrev pub opened : {A : Type 0} → ℕ → A → List (List A) → List (List A)
opened count slot frames = frames ++ replicate count slot ∷ []

-- the frames without the newest
abbrev pub closed : {A : Type 0} → List (List A) → List (List A)
closed frames = take (length frames - 1) frames

-- the frames with another slot at an index of the newest
abbrev pub changed : {A : Type 0} → ℕ → A → List (List A) → List (List A)
changed index slot frames = slice_set frames (length frames - 1) (slice_set (newest frames) index slot)

-- a frame of so many empty slots is opened
abbrev pub push_frame : {D : Type 0} → ℕ → Table D → Table D
push_frame count t = record t { frames = opened count null_slot t.frames }

-- the newest frame is closed
abbrev pub pop_frame : {D : Type 0} → Table D → Table D
pop_frame t = record t { frames = closed t.frames }

-- the slot of the newest frame with that index, where there is one
abbrev pub slot_at : {D : Type 0} → Table D → ℕ → Option Slot
slot_at t index = slice_get (newest t.frames) index

-- a slot of the newest frame has another class and names something else
abbrev pub set_slot : {D : Type 0} → ℕ → GcClass → Reference → Table D → Table D
set_slot index class r t = record t { frames = changed index (record { class = class; reference = r }) t.frames }
