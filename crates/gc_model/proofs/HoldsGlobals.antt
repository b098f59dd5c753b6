-- A store of which a global was set holds the table with that global set.
use Rattle.std.proofs.Common.{ℕ}
use Rattle.std.specs.Prelude.{slice_set}
use Rattle.gc_types.specs.declared.kind.Layouts.{Layouts}
use Rattle.gc_view.specs.Heaps.{HeapView}
use Rattle.gc_owner.specs.declared.entry.GcClass.{GcClass}
use Rattle.gc_model.specs.Values.{Reference}
use Rattle.gc_model.specs.Table.{Table}
use Rattle.gc_model.specs.Globals.{set_global}
use Rattle.gc_model.specs.Stores.{StoreView}
use Rattle.gc_model.specs.Holds.{Placing, IsWord, Holds}
use Rattle.gc_model.proofs.HoldsParts.{SameHeld, holds_same, globals_changed}
use Rattle.gc_model.proofs.SlotsSet.{globals-set}

-- the store with that global set
abbrev pub with_entry : {D : Type 0} → ℕ → GcClass → ℕ → HeapView → StoreView D → StoreView D
with_entry index class word heap s = record s { heap = heap; globals = slice_set s.globals index (record { class = class; word = word }) }

-- whose word is that of the reference, in a heap that holds the same
pub holds_global_set : {D : Type 0} (layouts : Layouts) (s : StoreView D) (t : Table D) (place : Placing) (index : ℕ) (class : GcClass) (r : Reference) (word : ℕ) (heap : HeapView)
    → Holds layouts s t place → IsWord place r word → SameHeld s.heap heap → Holds layouts (with_entry index class word heap s) (set_global index class r t) place
holds_global_set layouts s t place index class r word heap holds is same =
    globals_changed (holds_same layouts s t place heap holds same) (globals-set place index class r word is t.globals s.globals holds.globals)
