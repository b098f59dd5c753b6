use Rattle.gc_commands.specs.declared.command.Command.TheVariants as command
use Rattle.gc_commands.specs.declared.form.Form.TheVariants as form
use Rattle.gc_commands.specs.Parts.{FitRegisters, pair_words}
use Rattle.gc_commands.proofs.FormLemmas.{none_of, only_set_global}
use Rattle.gc_commands.proofs.plain.read_set_global.Goals as goal

pub returns-in_default : goal.returns-in_default
returns-in_default c = none_of form.SetGlobal FitRegisters pair_words (λ p. command.SetGlobal p.0 p.1) only_set_global c.args.words.now c.in_default.ensures
