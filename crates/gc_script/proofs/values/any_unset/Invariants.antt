use Rattle.gc_script.proofs.OperandLemmas.{PassedSet}
use Rattle.gc_script.proofs.values.any_unset.Given as goal

abbrev pub invariant-loop-operand : goal.invariant-loop-operand
invariant-loop-operand l = PassedSet l.registers l.operands l.operand-index
