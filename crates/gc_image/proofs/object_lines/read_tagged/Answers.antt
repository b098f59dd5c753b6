use Rattle.gc_image.proofs.ObjectLemmas.{no_index}
use Rattle.gc_image.proofs.object_lines.read_tagged.Goals as goal

pub returns-in_err-index : goal.returns-in_err-index
returns-in_err-index c = rw c.from_residual-in_err-index.ensures (no_index c.args.words.now _ _ _ _ c.in_ok-ty.ensures.1 c.in_ok-instance.ensures.1 c.in_err-index.ensures)
