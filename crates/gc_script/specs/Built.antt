-- What is a command.
use Rattle.std.specs.Prelude.{Bool, true, false}
use Rattle.gc_commands.specs.declared.command.Command.{Command}
use Rattle.gc_commands.specs.declared.command.Command.TheVariants.{Bad}

-- whether a command is one; a line that is none is refused as a bad line
abbrev pub is_built : Command → Bool
is_built Bad = false
is_built _ = true
