use Rattle.gc_image_write.proofs.ReachLemmas.{numbering_carried}
use Rattle.gc_image_write.proofs.laws.an_order_goes_with_a_renaming.Goals as goal

pub returns : goal.returns
returns g = numbering_carried
