use Rattle.gc_commands.specs.declared.command.Command.TheVariants as command
use Rattle.gc_commands.specs.declared.form.Form.TheVariants as form
use Rattle.gc_commands.specs.Parts.{FitRegisterAndWide, pair_words}
use Rattle.gc_commands.proofs.FormLemmas.{none_of, only_host}
use Rattle.gc_commands.proofs.plain.read_host.Goals as goal

pub returns-in_default : goal.returns-in_default
returns-in_default c = none_of form.Host FitRegisterAndWide pair_words (λ p. command.Host p.0 p.1) only_host c.args.words.now c.in_default.ensures
