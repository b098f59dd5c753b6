use Rattle.gc_image.specs.Text.{FitsObject, object_words}
use Rattle.gc_image.proofs.LineLemmas.{ok_line_read}
use Rattle.gc_image.proofs.ObjectLemmas.{object_fit, object_some}
use Rattle.gc_image.proofs.object_lines.object_of.Goals as goal

pub returns : goal.returns
returns c = ok_line_read FitsObject object_words object_fit object_some c.args.line.now c.of.result c.read_object.result c.of.ensures c.read_object.ensures
