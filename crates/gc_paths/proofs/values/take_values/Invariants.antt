use Rattle.std.proofs.Common.{ℕ, List, ◌+◌, take}
use Rattle.gc_model.specs.Values.{Object}
use Rattle.gc_model.specs.Reach.{object_values}
use Rattle.gc_store.specs.Stores.{IsSameStore}
use Rattle.gc_paths.specs.Parts.{parts}
use Rattle.gc_paths.specs.Progress.{Basis, Progress, SearchGoesOn, TellsValues, values_count}
use Rattle.gc_paths.specs.Reports.{Told}
use Rattle.gc_paths.specs.Steps.{IsReading}
use Rattle.gc_paths.proofs.values.take_values.Given as goal

abbrev pub invariant-loop-index : goal.invariant-loop-index
invariant-loop-index g l = record {
  goes : (b : Basis g.row.D.Denot) (told : List Told) (bound count : ℕ) (o : Object g.row.D.Denot) → Progress g.H.GcHeap.KIND b told bound count l.fn.store (parts l.fn.report) → IsReading b told bound l.entry o
      → SearchGoesOn g.H.GcHeap.KIND b told bound (count + values_count (take l.index (object_values o))) l.store (parts l.report) (TellsValues bound l.index (object_values o));
  same : IsSameStore l.fn.store l.store;
}
