use Rattle.gc_commands.proofs.ObjectLemmas.{no_fixed}
use Rattle.gc_commands.proofs.objects.read_fixed.Goals as goal

pub returns-in_default : goal.returns-in_default
returns-in_default c = no_fixed c.args.words.now c.in_default.ensures
