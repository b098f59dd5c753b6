-- A store of which the pending exception was set or taken holds the table with that changed.
use Rattle.std.proofs.Common.{ℕ, Option}
use Rattle.gc_types.specs.declared.kind.Layouts.{Layouts}
use Rattle.gc_view.specs.Heaps.{HeapView, SameHeld}
use Rattle.gc_model.specs.Values.{Reference}
use Rattle.gc_model.specs.Table.{Table}
use Rattle.gc_model.specs.Pending.{with_pending}
use Rattle.gc_model.specs.Stores.{StoreView}
use Rattle.gc_model.specs.Holds.{Placing, Holds, ThrownBy}
use Rattle.gc_model.proofs.HoldsParts.{holds_same, pending_changed}

-- the store with that word of a pending exception
abbrev pub with_pending_word : {D : Type 0} → ℕ → HeapView → StoreView D → StoreView D
with_pending_word word heap s = record s { heap = heap; pending = word }

-- whose word is that of the reference, in a heap that holds the same
pub holds_pending_set : {D : Type 0} (layouts : Layouts) (s : StoreView D) (t : Table D) (place : Placing) (pending : Option Reference) (word : ℕ) (heap : HeapView)
    → Holds layouts s t place → ThrownBy t.objects place pending word → SameHeld s.heap heap → Holds layouts (with_pending_word word heap s) (with_pending pending t) place
holds_pending_set layouts s t place pending word heap holds thrown same = pending_changed (holds_same layouts s t place heap holds same) thrown
