use Rattle.std.proofs.Common.{◌≡◌, Some, length, sym, subst, refl, add-one, arith}
use Rattle.std.specs.List.{slice_get}
use Rattle.std.proofs.lemmas.List.{length-map}
use Rattle.std.proofs.lemmas.Option.{slice_get_read}
use Rattle.gc_script.specs.declared.objects.ValueTypes.TheVariants as types_of
use Rattle.gc_script.specs.Values.{set_operand, set_operands, ChecksOperands}
use Rattle.gc_script.proofs.CheckLemmas.{err_is, CheckedSoFar, checked_more, checked_refused, checked_storable, checked_plain, checked_all}
use Rattle.gc_script.proofs.OperandLemmas.{set_at}
use Rattle.gc_script.proofs.values.check_elements.Given as given
use Rattle.gc_script.proofs.values.check_elements.Goals as goal
use Rattle.gc_script.proofs.values.check_elements.Goals.{After-check_operand}

-- the value is that of its operand
value_is : (g : given.Over) (c : After-check_operand g) → slice_get (set_operands c.args.registers.now c.args.operands.now) c.loop-operand.operand-index ≡ Some (set_operand c.args.registers.now c.operand-item.result)
value_is g c =
    set_at c.args.registers.now c.args.operands.now c.loop-operand.operand-index c.operand-item.result
    (slice_get_read c.args.operands.now (length c.args.operands.now) c.loop-operand.operand-index c.operand-item.result refl c.loop-operand-test.true c.operand-item.is)

pub returns-in_err-check_operand-clause-checks : goal.returns-in_err-check_operand-clause-checks
returns-in_err-check_operand-clause-checks g c s vs holds are =
    subst (ChecksOperands c.args.store.now s (types_of.Elements c.args.element.now) vs (set_operands c.args.registers.now c.args.operands.now)) (sym (err_is c.from_residual.result c.in_err-check_operand.field-0.0 c.from_residual.ensures.1))
    (checked_refused g.H.GcHeap.KIND c.args.store.now (types_of.Elements c.args.element.now) (set_operands c.args.registers.now c.args.operands.now) c.loop-operand.operand-index c.loop-operand.invariant
    (set_operand c.args.registers.now c.operand-item.result)
    (value_is g (goal.at.returns-in_err-check_operand-clause-checks g c).After-check_operand)
    (Some c.args.element.now) refl c.in_err-check_operand.field-0.0 c.in_err-check_operand.ensures.checks s vs holds are)

pub loop-operand-preserved : goal.loop-operand-preserved
loop-operand-preserved g c =
    subst (CheckedSoFar g.H.GcHeap.KIND c.args.store.now (types_of.Elements c.args.element.now) (set_operands c.args.registers.now c.args.operands.now)) (sym (add-one c.loop-operand.operand-index))
    (checked_more g.H.GcHeap.KIND c.args.store.now (types_of.Elements c.args.element.now) (set_operands c.args.registers.now c.args.operands.now) c.loop-operand.operand-index c.loop-operand.invariant
    (set_operand c.args.registers.now c.operand-item.result)
    (value_is g (goal.at.loop-operand-preserved g c).After-check_operand)
    (Some c.args.element.now) refl c.in_ok-check_operand.field-0 c.in_ok-check_operand.ensures.stores c.in_ok-check_operand.ensures.plain c.in_ok-check_operand.ensures.checks)

pub returns-clause-stores : goal.returns-clause-stores
returns-clause-stores g c =
    checked_storable g.H.GcHeap.KIND c.args.store.now (types_of.Elements c.args.element.now) (set_operands c.args.registers.now c.args.operands.now) c.loop-operand.operand-index c.loop-operand.invariant
    (let many = length-map c.args.operands.now (set_operand c.args.registers.now) in let over = c.loop-operand-test.false in omega (arith, many, over))

pub returns-clause-plain : goal.returns-clause-plain
returns-clause-plain g c =
    checked_plain g.H.GcHeap.KIND c.args.store.now (types_of.Elements c.args.element.now) (set_operands c.args.registers.now c.args.operands.now) c.loop-operand.operand-index c.loop-operand.invariant
    (let many = length-map c.args.operands.now (set_operand c.args.registers.now) in let over = c.loop-operand-test.false in omega (arith, many, over))

pub returns-clause-checks : goal.returns-clause-checks
returns-clause-checks g c =
    checked_all g.H.GcHeap.KIND c.args.store.now (types_of.Elements c.args.element.now) (set_operands c.args.registers.now c.args.operands.now) c.loop-operand.operand-index c.loop-operand.invariant
    (let many = length-map c.args.operands.now (set_operand c.args.registers.now) in let over = c.loop-operand-test.false in omega (arith, many, over)) tt
