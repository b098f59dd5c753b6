use Rattle.gc_commands.specs.declared.command.Command.TheVariants as command
use Rattle.gc_commands.specs.declared.form.Form.TheVariants as form
use Rattle.gc_commands.specs.Parts.{FitRegisterAndNumber, pair_words}
use Rattle.gc_commands.proofs.FormLemmas.{none_of, only_i31}
use Rattle.gc_commands.proofs.plain.read_i31.Goals as goal

pub returns-in_default : goal.returns-in_default
returns-in_default c = none_of form.I31 FitRegisterAndNumber pair_words (λ p. command.I31 p.0 p.1) only_i31 c.args.words.now c.in_default.ensures
