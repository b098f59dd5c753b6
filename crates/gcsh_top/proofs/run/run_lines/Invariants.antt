use Rattle.std.proofs.Common.{◌≡◌, ◌≤◌, ◌++◌, ℕ, List, false, length}
use Rattle.gc_script.specs.State.{State, HoldsState}
use Rattle.gc_store.specs.Stores.{IsSameStore}
use Rattle.gc_script.specs.Cutting.{IsUnfinished, has_feed}
use Rattle.gcsh_top.proofs.PieceLemmas.{Piecewise}
use Rattle.gcsh_top.proofs.run.run_lines.Given as goal

abbrev pub invariant-loop-rest : goal.invariant-loop-rest
invariant-loop-rest g l = record {
  along : (bytes : List ℕ) (s : State) → IsUnfinished l.fn.cutter bytes → HoldsState g.H.GcHeap.KIND l.fn.store l.fn.runner s
      → Piecewise g.H.GcHeap.KIND l.fn.store.alloc_counter (g.L.ResourceLimiter.limits l.fn.limiter) (g.L.ResourceLimiter.limits l.limiter) s (bytes ++ l.piece) l.rest l.cutter
      l.fn.store l.store l.runner (g.K.Sink.tells l.fn.sink).held (g.K.Sink.tells l.sink).held;
  unwritten : l.replied ≡ false → g.K.Sink.tells l.sink ≡ g.K.Sink.tells l.fn.sink;
  plain : l.replied ≡ false → has_feed l.rest ≡ false → has_feed l.piece ≡ false;
  faults : (g.K.Sink.tells l.fn.sink).faults ≤ (g.K.Sink.tells l.sink).faults;
  same : IsSameStore l.fn.store l.store;
}

abbrev pub decreases-loop-rest : goal.decreases-loop-rest
decreases-loop-rest g l = length l.rest
