use Rattle.gc_commands.specs.declared.command.Command.TheVariants as command
use Rattle.gc_commands.specs.declared.form.Form.TheVariants as form
use Rattle.gc_commands.specs.Parts.{FitWrite, write_words}
use Rattle.gc_commands.proofs.FormLemmas.{none_of, only_set_elem}
use Rattle.gc_commands.proofs.plain.read_set_elem.Goals as goal

pub returns-in_default : goal.returns-in_default
returns-in_default c = none_of form.SetElem FitWrite write_words (λ p. command.SetElem p.0 p.1 p.2) only_set_elem c.args.words.now c.in_default.ensures
