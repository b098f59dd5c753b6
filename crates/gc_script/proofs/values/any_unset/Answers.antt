use Rattle.std.proofs.Common.{not, ap, ◌∙◌, arith}
use Rattle.gc_script.proofs.OperandLemmas.{passed_more, all_passed}
use Rattle.gc_script.proofs.values.any_unset.Goals as goal

pub loop-operand-preserved : goal.loop-operand-preserved
loop-operand-preserved c =
    passed_more c.args.registers.now c.args.operands.now c.loop-operand.operand-index c.operand-item.result c.operand_value.result c.loop-operand-test.true c.operand-item.is
    (c.is_none.ensures ∙ ap not c.if-is_none.false) c.operand_value.ensures.holds c.loop-operand.invariant

pub returns-clause-set : goal.returns-clause-set
returns-clause-set c none =
    all_passed c.args.registers.now c.args.operands.now c.loop-operand.operand-index (let over = c.loop-operand-test.false in omega arith) c.loop-operand.invariant
