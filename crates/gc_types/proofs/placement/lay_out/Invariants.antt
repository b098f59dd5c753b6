use Rattle.gc_types.proofs.LayoutLemmas.{LaidOutSoFar}
use Rattle.gc_types.proofs.placement.lay_out.Given as goal

abbrev pub invariant-loop-field : goal.invariant-loop-field
invariant-loop-field l = LaidOutSoFar l.fn.base l.fields l.places.items l.end l.field-index
