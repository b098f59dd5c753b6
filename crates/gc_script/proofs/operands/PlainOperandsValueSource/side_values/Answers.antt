use Rattle.std.proofs.Common.{sym}
use Rattle.gc_script.specs.Values.{set_operands}
use Rattle.gc_script.proofs.OperandLemmas.{plain_none}
use Rattle.gc_script.proofs.operands.PlainOperandsValueSource.side_values.Goals as goal

pub returns : goal.returns
returns c = sym (plain_none (set_operands c.args.self.now.registers.now c.args.self.now.operands.now) c.args.self.now.plain)
