use Rattle.gc_commands.proofs.ObjectLemmas.{no_new}
use Rattle.gc_commands.proofs.objects.read_new_into.Goals as goal

pub returns-in_default : goal.returns-in_default
returns-in_default c = no_new c.args.words.now c.in_default.ensures
