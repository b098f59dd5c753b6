use Rattle.std.proofs.Common.{◌≡◌, sym, subst}
use Rattle.gc_model.specs.SideValues.{no_side_values}
use Rattle.gc_values.specs.Interning.{request_values}
use Rattle.gc_values.specs.RawValues.{raw_side_values}
use Rattle.gc_script.specs.declared.make.NewValues.{NewValues}
use Rattle.gc_script.specs.NewValues.{contents_of, operand_values}
use Rattle.gc_script.specs.Values.{AllPlain, set_operands}
use Rattle.gc_script.proofs.OperandLemmas.{plain_none}
use Rattle.gc_script.proofs.command_values.CommandValuesContentSource.side_values.Goals as goal

pub returns-in-Operands : goal.returns-in-Operands
returns-in-Operands c =
    let given = c.args.self.now in
    subst (λ (values : NewValues). no_side_values ≡ raw_side_values (request_values c.args.request.now (contents_of given.registers.now values))) (sym c.in-Operands.is)
    (sym (plain_none (set_operands given.registers.now c.in-Operands.field-0.now) (subst (λ (values : NewValues). AllPlain (operand_values given.registers.now values)) c.in-Operands.is given.plain)))
