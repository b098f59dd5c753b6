use Rattle.gc_commands.specs.declared.command.Command.TheVariants as command
use Rattle.gc_commands.specs.declared.form.Form.TheVariants as form
use Rattle.gc_commands.specs.Parts.{number_words}
use Rattle.gc_commands.proofs.FormLemmas.{FitWide, none_of, only_grow}
use Rattle.gc_commands.proofs.plain.read_grow.Goals as goal

pub returns-in_default : goal.returns-in_default
returns-in_default c = none_of form.Grow FitWide number_words command.Grow only_grow c.args.words.now c.in_default.ensures
