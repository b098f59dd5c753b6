use Rattle.gc_image_write.proofs.VisitLemmas.{numbering_one}
use Rattle.gc_image_write.proofs.laws.an_order_is_determined.Goals as goal

pub returns : goal.returns
returns g = numbering_one
