use Rattle.std.proofs.Common.{IfOk, sym, subst}
use Rattle.gc_commands.specs.declared.command.Command.{Command}
use Rattle.gc_image.specs.Steps.{Declared}
use Rattle.gc_image.proofs.declare.declare.Goals as goal

pub returns-in-Array : goal.returns-in-Array
returns-in-Array c =
    subst (λ (command : Command). IfOk c.declare_array.result (Declared c.args.types.now.declarations command c.declare_array.new.types.declarations)) (sym c.in-Array.is) c.declare_array.ensures
