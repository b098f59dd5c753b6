-- What is kept of a command that was read.
use Rattle.std.specs.Prelude.{List}
use Rattle.gc_commands.specs.declared.command.Command.{Command}
use Rattle.gc_commands.specs.declared.command.Command.TheVariants.{New, NewExn, Fixed}
use Rattle.gc_commands.specs.declared.command.Operand.{Operand}

-- the operands of a command that has a list of them, and else what was kept before
abbrev pub operands_kept : Command → List Operand → List Operand
operands_kept (New d t vs) kept = vs
operands_kept (NewExn d t tag vs) kept = vs
operands_kept (Fixed d t vs) kept = vs
operands_kept _ kept = kept
