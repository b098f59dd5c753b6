use Rattle.gc_commands.specs.declared.command.Command.TheVariants as command
use Rattle.gc_commands.specs.declared.form.Form.TheVariants as form
use Rattle.gc_commands.specs.Parts.{number_words}
use Rattle.gc_commands.proofs.FormLemmas.{FitRegister, none_of, only_throw}
use Rattle.gc_commands.proofs.plain.read_throw.Goals as goal

pub returns-in_default : goal.returns-in_default
returns-in_default c = none_of form.Throw FitRegister number_words command.Throw only_throw c.args.words.now c.in_default.ensures
