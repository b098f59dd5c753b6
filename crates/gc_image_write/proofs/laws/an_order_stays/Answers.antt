use Rattle.gc_image_write.proofs.ReachLemmas.{numbering_in_turn}
use Rattle.gc_image_write.proofs.laws.an_order_stays.Goals as goal

pub returns : goal.returns
returns g = numbering_in_turn
