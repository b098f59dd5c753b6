use Rattle.gc_objects.proofs.ValueCounts.{CountedSoFar}
use Rattle.gc_objects.proofs.each_value.count_references.Given as goal

abbrev pub invariant-loop-index : goal.invariant-loop-index
invariant-loop-index g l = CountedSoFar l.store.types l.ty l.len l.references l.index
