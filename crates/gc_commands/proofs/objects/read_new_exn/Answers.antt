use Rattle.gc_commands.proofs.ObjectLemmas.{no_new_exn}
use Rattle.gc_commands.proofs.objects.read_new_exn.Goals as goal

pub returns-in_default : goal.returns-in_default
returns-in_default c = no_new_exn c.args.words.now c.in_default.ensures
