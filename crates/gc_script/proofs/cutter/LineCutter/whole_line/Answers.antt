use Rattle.std.proofs.Common.{sym}
use Rattle.gc_script.proofs.CutLemmas.{whole_at}
use Rattle.gc_script.proofs.cutter.LineCutter.whole_line.Goals as goal

pub returns-clause-begins : goal.returns-clause-begins
returns-clause-begins c = whole_at c.args.piece.now c.in_ok-at.at (sym c.in_ok-at.ensures)
