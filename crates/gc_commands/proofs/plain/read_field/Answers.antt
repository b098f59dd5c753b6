use Rattle.gc_commands.specs.declared.command.Command.TheVariants as command
use Rattle.gc_commands.specs.declared.form.Form.TheVariants as form
use Rattle.gc_commands.specs.Parts.{FitPlace, place_words}
use Rattle.gc_commands.proofs.FormLemmas.{none_of, only_field}
use Rattle.gc_commands.proofs.plain.read_field.Goals as goal

pub returns-in_default : goal.returns-in_default
returns-in_default c = none_of form.Field FitPlace place_words (λ p. command.Field p.0 p.1 p.2) only_field c.args.words.now c.in_default.ensures
