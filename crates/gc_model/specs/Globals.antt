-- Globals are roots: setting one and reading it.
use Rattle.std.specs.Prelude.{ℕ, Option, slice_get, slice_set}
use Rattle.gc_owner.specs.declared.entry.GcClass.{GcClass}
use Rattle.gc_model.specs.Values.{Reference}
use Rattle.gc_model.specs.Table.{Table, Slot}

-- the global with that index, where there is one
abbrev pub global_at : {D : Type 0} → Table D → ℕ → Option Slot
global_at t index = slice_get t.globals index

-- a global has another class and names something else
abbrev pub set_global : {D : Type 0} → ℕ → GcClass → Reference → Table D → Table D
set_global index class r t = record t { globals = slice_set t.globals index (record { class = class; reference = r }) }
