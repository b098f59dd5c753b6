use Rattle.std.proofs.Common.{◌≡◌, ℕ, List, Option, Some, length, sym, ap, ◌∙◌, subst, refl, add-one, arith}
use Rattle.std.specs.List.{slice_get}
use Rattle.std.proofs.lemmas.List.{length-map}
use Rattle.std.proofs.lemmas.Option.{slice_get_read}
use Rattle.std.specs.Option.{option_and_then, option_copied}
use Rattle.gc_types.specs.declared.value.FieldType.{FieldType}
use Rattle.gc_types.specs.Declarations.{fields_at}
use Rattle.gc_script.specs.Named.{type_at}
use Rattle.gc_script.specs.declared.objects.ValueTypes.TheVariants as types_of
use Rattle.gc_script.specs.Values.{set_operand, set_operands, ChecksOperands}
use Rattle.gc_script.proofs.CheckLemmas.{err_is, PlainSoFar, plain_more, plain_all, CheckedSoFar, checked_none, checked_more, checked_refused, checked_storable, checked_all}
use Rattle.gc_script.proofs.OperandLemmas.{set_at}
use Rattle.gc_script.proofs.values.check_fields.Given as given
use Rattle.gc_script.proofs.values.check_fields.Goals as goal
use Rattle.gc_script.proofs.values.check_fields.Goals.{After-check_operand}

-- the value is that of its operand
value_is : (g : given.Over) (c : After-check_operand g) → slice_get (set_operands c.args.registers.now c.args.operands.now) c.loop-index.index ≡ Some (set_operand c.args.registers.now c.index-operands-index.result)
value_is g c =
    set_at c.args.registers.now c.args.operands.now c.loop-index.index c.index-operands-index.result
    (slice_get_read c.args.operands.now (length c.args.operands.now) c.loop-index.index c.index-operands-index.result refl c.loop-index-test.true c.index-operands-index.is)

-- and the type is that of its field
field_is : (g : given.Over) (c : After-check_operand g) (ty : ℕ) → fields_at c.args.store.now.types ty ≡ Some c.args.fields.now → option_copied c.field_at.result ≡ type_at c.args.store.now.types (types_of.Fields ty) c.loop-index.index
field_is g c ty is = c.field_at.ensures ∙ sym (ap (λ (fs : Option (List FieldType)). option_and_then (λ (fields : List FieldType). slice_get fields c.loop-index.index) fs) is)

pub returns-in_err-check_operand-clause-checks : goal.returns-in_err-check_operand-clause-checks
returns-in_err-check_operand-clause-checks g c ty is s vs holds are =
    subst (ChecksOperands c.args.store.now s (types_of.Fields ty) vs (set_operands c.args.registers.now c.args.operands.now)) (sym (err_is c.from_residual.result c.in_err-check_operand.field-0.0 c.from_residual.ensures.1))
    (checked_refused g.H.GcHeap.KIND c.args.store.now (types_of.Fields ty) (set_operands c.args.registers.now c.args.operands.now) c.loop-index.index (c.loop-index.invariant.1 ty is)
    (set_operand c.args.registers.now c.index-operands-index.result)
    (value_is g (goal.at.returns-in_err-check_operand-clause-checks g c).After-check_operand)
    (option_copied c.field_at.result) (field_is g (goal.at.returns-in_err-check_operand-clause-checks g c).After-check_operand ty is) c.in_err-check_operand.field-0.0 c.in_err-check_operand.ensures.checks s vs holds are)

pub loop-index-init : goal.loop-index-init
loop-index-init g c = (λ j r lt e. absurd (omega (arith, lt)), λ ty is. checked_none g.H.GcHeap.KIND c.args.store.now (types_of.Fields ty) (set_operands c.args.registers.now c.args.operands.now))

pub loop-index-preserved : goal.loop-index-preserved
loop-index-preserved g c = (
  subst (PlainSoFar (set_operands c.args.registers.now c.args.operands.now)) (sym (add-one c.loop-index.index))
      (plain_more (set_operands c.args.registers.now c.args.operands.now) c.loop-index.index (set_operand c.args.registers.now c.index-operands-index.result)
      (value_is g (goal.at.loop-index-preserved g c).After-check_operand) c.in_ok-check_operand.ensures.plain c.loop-index.invariant.0),
  λ ty is.
      subst (CheckedSoFar g.H.GcHeap.KIND c.args.store.now (types_of.Fields ty) (set_operands c.args.registers.now c.args.operands.now)) (sym (add-one c.loop-index.index))
      (checked_more g.H.GcHeap.KIND c.args.store.now (types_of.Fields ty) (set_operands c.args.registers.now c.args.operands.now) c.loop-index.index (c.loop-index.invariant.1 ty is)
      (set_operand c.args.registers.now c.index-operands-index.result)
      (value_is g (goal.at.loop-index-preserved g c).After-check_operand)
      (option_copied c.field_at.result) (field_is g (goal.at.loop-index-preserved g c).After-check_operand ty is) c.in_ok-check_operand.field-0 c.in_ok-check_operand.ensures.stores c.in_ok-check_operand.ensures.plain c.in_ok-check_operand.ensures.checks),
)

pub returns-clause-stores : goal.returns-clause-stores
returns-clause-stores g c ty is =
    checked_storable g.H.GcHeap.KIND c.args.store.now (types_of.Fields ty) (set_operands c.args.registers.now c.args.operands.now) c.loop-index.index (c.loop-index.invariant.1 ty is)
    (let many = length-map c.args.operands.now (set_operand c.args.registers.now) in let over = c.loop-index-test.false in omega (arith, many, over))

pub returns-clause-plain : goal.returns-clause-plain
returns-clause-plain g c =
    plain_all (set_operands c.args.registers.now c.args.operands.now) c.loop-index.index
    (let many = length-map c.args.operands.now (set_operand c.args.registers.now) in let over = c.loop-index-test.false in omega (arith, many, over)) c.loop-index.invariant.0

pub returns-clause-checks : goal.returns-clause-checks
returns-clause-checks g c ty is =
    checked_all g.H.GcHeap.KIND c.args.store.now (types_of.Fields ty) (set_operands c.args.registers.now c.args.operands.now) c.loop-index.index (c.loop-index.invariant.1 ty is)
    (let many = length-map c.args.operands.now (set_operand c.args.registers.now) in let over = c.loop-index-test.false in omega (arith, many, over)) tt
