use Rattle.gc_commands.specs.declared.command.Command.TheVariants as command
use Rattle.gc_commands.specs.declared.form.Form.TheVariants as form
use Rattle.gc_commands.specs.Parts.{FitRegisters, pair_words}
use Rattle.gc_commands.proofs.FormLemmas.{none_of, only_get_global}
use Rattle.gc_commands.proofs.plain.read_get_global.Goals as goal

pub returns-in_default : goal.returns-in_default
returns-in_default c = none_of form.GetGlobal FitRegisters pair_words (λ p. command.GetGlobal p.0 p.1) only_get_global c.args.words.now c.in_default.ensures
