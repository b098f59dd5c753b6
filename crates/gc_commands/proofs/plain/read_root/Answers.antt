use Rattle.gc_commands.specs.declared.command.Command.TheVariants as command
use Rattle.gc_commands.specs.declared.form.Form.TheVariants as form
use Rattle.gc_commands.specs.Parts.{FitRegisters, pair_words}
use Rattle.gc_commands.proofs.FormLemmas.{none_of, only_root}
use Rattle.gc_commands.proofs.plain.read_root.Goals as goal

pub returns-in_default : goal.returns-in_default
returns-in_default c = none_of form.Root FitRegisters pair_words (λ p. command.Root p.0 p.1) only_root c.args.words.now c.in_default.ensures
