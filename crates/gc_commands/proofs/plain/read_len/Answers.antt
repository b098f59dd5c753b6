use Rattle.gc_commands.specs.declared.command.Command.TheVariants as command
use Rattle.gc_commands.specs.declared.form.Form.TheVariants as form
use Rattle.gc_commands.specs.Parts.{number_words}
use Rattle.gc_commands.proofs.FormLemmas.{FitRegister, none_of, only_len}
use Rattle.gc_commands.proofs.plain.read_len.Goals as goal

pub returns-in_default : goal.returns-in_default
returns-in_default c = none_of form.Len FitRegister number_words command.Len only_len c.args.words.now c.in_default.ensures
