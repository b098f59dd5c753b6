use Rattle.gc_values.specs.Interning.{ids_of}
use Rattle.gc_values.proofs.ValueSteps.{FillsFirst}
use Rattle.gc_values.proofs.fill.write_each_field.Given as goal

abbrev pub invariant-loop-index : goal.invariant-loop-index
invariant-loop-index g l = FillsFirst g.H.GcHeap.KIND (ids_of l.interned) (g.V.ValueSource.given l.values) l.initial.owner.seen l.owner.seen l.gc_ref l.ty.index l.index
