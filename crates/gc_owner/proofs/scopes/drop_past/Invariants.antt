use Rattle.std.proofs.Common.{◌≡◌, ℕ, Bool, List, length, take}
use Rattle.gc_types.specs.Declarations.{Declaration}
use Rattle.gc_view.specs.Heaps.{SameHeld}
use Rattle.gc_owner.specs.RootColumns.{roots_of}
use Rattle.gc_owner.specs.DroppedRoots.{CanDropRoots}
use Rattle.gc_owner.specs.Tracing.{IsCollectable}
use Rattle.gc_owner.proofs.scopes.drop_past.Given as goal

abbrev pub invariant-loop-word : goal.invariant-loop-word
invariant-loop-word g l = record {
  sound : g.H.GcHeap.sound l.heap;
  can : CanDropRoots g.H.GcHeap.KIND (g.H.GcHeap.seen l.heap) l.roots;
  held : SameHeld (g.H.GcHeap.seen l.initial.heap) (g.H.GcHeap.seen l.heap);
  keeps : (types : List Declaration) (hosts : ℕ → Bool) → IsCollectable g.H.GcHeap.KIND types (g.H.GcHeap.seen l.initial.heap) (roots_of l.initial.roots) hosts
      → IsCollectable g.H.GcHeap.KIND types (g.H.GcHeap.seen l.heap) (roots_of l.roots) hosts;
  front : take l.mark l.roots.scoped ≡ take l.mark l.initial.roots.scoped;
  rest : l.roots ≡ record l.initial.roots { scoped = l.roots.scoped };
}

abbrev pub decreases-loop-word : goal.decreases-loop-word
decreases-loop-word g l = length l.roots.scoped
