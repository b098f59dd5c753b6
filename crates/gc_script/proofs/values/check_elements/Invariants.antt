use Rattle.gc_script.specs.Values.{set_operands}
use Rattle.gc_script.specs.declared.objects.ValueTypes.TheVariants as types_of
use Rattle.gc_script.proofs.CheckLemmas.{CheckedSoFar}
use Rattle.gc_script.proofs.values.check_elements.Given as goal

abbrev pub invariant-loop-operand : goal.invariant-loop-operand
invariant-loop-operand g l = CheckedSoFar g.H.GcHeap.KIND l.store (types_of.Elements l.element) (set_operands l.registers l.operands) l.operand-index
