use Rattle.gc_objects.specs.Given.{types_of}
use Rattle.gc_objects.proofs.CheckLemmas.{CheckedSoFar}
use Rattle.gc_objects.proofs.checks.check_values.Given as goal

abbrev pub invariant-loop-index : goal.invariant-loop-index
invariant-loop-index g l = CheckedSoFar g.row.D.Denot g.H.GcHeap.KIND l.store (types_of l.store.types l.types) l.values l.index
