use Rattle.gc_image.proofs.TextLemmas.{text_read}
use Rattle.gc_image.proofs.parse.parse_image.Goals as goal

pub returns : goal.returns
returns c = text_read c.args.bytes.now c.of.result c.read_image.result c.of.ensures c.read_image.ensures
