use Rattle.std.proofs.Common.{ℕ, List}
use Rattle.gc_store.specs.Stores.{IsSameStore}
use Rattle.gc_paths.specs.Parts.{parts}
use Rattle.gc_paths.specs.Progress.{Basis, Progress}
use Rattle.gc_paths.specs.Reports.{Told}
use Rattle.gc_paths.proofs.ObjectsLoop.{Round}
use Rattle.gc_paths.proofs.search.take_objects.Given as goal

abbrev pub invariant-loop-entry : goal.invariant-loop-entry
invariant-loop-entry g l = record {
  goes : (b : Basis g.row.D.Denot) (told : List Told) (count : ℕ) → Progress g.H.GcHeap.KIND b told 0 count l.fn.store (parts l.fn.report) → Round g.H.GcHeap.KIND b told count l.entry l.store (parts l.report);
  same : IsSameStore l.fn.store l.store;
}
