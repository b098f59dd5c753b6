use Rattle.gc_script.proofs.CutLemmas.{feeds_give_lines}
use Rattle.gc_script.proofs.cutter.pieces_give_lines.Goals as goal

pub returns : goal.returns
returns g = feeds_give_lines
