use Rattle.gc_image.proofs.ObjectLemmas.{no_tagged}
use Rattle.gc_image.proofs.object_lines.read_exn.Goals as goal

pub returns-in_default : goal.returns-in_default
returns-in_default c = no_tagged c.args.words.now c.in_default.ensures
