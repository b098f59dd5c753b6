use Rattle.gc_heap.proofs.TraceLemmas.{TracedAt}
use Rattle.gc_heap.proofs.trace.struct_trace.Given as goal

abbrev pub invariant-loop-field : goal.invariant-loop-field
invariant-loop-field l = TracedAt l.bits l.field-index l.fields
