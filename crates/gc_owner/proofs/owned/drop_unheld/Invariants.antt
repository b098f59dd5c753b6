use Rattle.std.proofs.Common.{ℕ, Bool, List}
use Rattle.gc_types.specs.Declarations.{Declaration}
use Rattle.gc_view.specs.Heaps.{SameHeld}
use Rattle.gc_owner.specs.RootColumns.{roots_of}
use Rattle.gc_owner.specs.DroppedRoots.{CanDropRoots}
use Rattle.gc_owner.specs.Tracing.{IsCollectable}
use Rattle.gc_owner.proofs.OwnedLemmas.{trimmed}
use Rattle.gc_owner.proofs.owned.drop_unheld.Given as goal

abbrev pub invariant-loop-entry : goal.invariant-loop-entry
invariant-loop-entry g l = record {
  sound : g.H.GcHeap.sound l.heap;
  can : CanDropRoots g.H.GcHeap.KIND (g.H.GcHeap.seen l.heap) (trimmed l.entry-index l.entries l.roots);
  held : SameHeld (g.H.GcHeap.seen l.initial.heap) (g.H.GcHeap.seen l.heap);
  keeps : (types : List Declaration) (hosts : ℕ → Bool) → IsCollectable g.H.GcHeap.KIND types (g.H.GcHeap.seen l.initial.heap) (roots_of l.roots) hosts
      → IsCollectable g.H.GcHeap.KIND types (g.H.GcHeap.seen l.heap) (roots_of (trimmed l.entry-index l.entries l.roots)) hosts;
}
