use Rattle.gc_image.specs.Text.{FitsGlobal, global_line_words}
use Rattle.gc_image.proofs.LineLemmas.{line_read}
use Rattle.gc_image.proofs.ObjectLemmas.{global_fit, global_some}
use Rattle.gc_image.proofs.object_lines.global_of.Goals as goal

pub returns : goal.returns
returns c = line_read FitsGlobal global_line_words global_fit global_some c.args.line.now c.of.result c.read_global.result c.of.ensures c.read_global.ensures
