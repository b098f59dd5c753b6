-- Commands of one word whose reply is `ok` or a refusal.
use Rattle.gc_commands.specs.declared.command.Command.{Command}
use Rattle.gc_commands.specs.declared.command.Command.TheVariants as command
use Rattle.gc_commands.specs.declared.lone.Lone.{Lone}
use Rattle.gc_commands.specs.declared.lone.Lone.TheVariants as lone

abbrev pub lone_command : Lone → Command
lone_command lone.Enter = command.Enter
lone_command lone.Leave = command.Leave
lone_command lone.Pop = command.Pop
