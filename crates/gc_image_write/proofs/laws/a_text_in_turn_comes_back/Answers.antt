use Rattle.gc_image_write.proofs.SameImage.{text_again}
use Rattle.gc_image_write.proofs.laws.a_text_in_turn_comes_back.Goals as goal

pub returns : goal.returns
returns g = text_again
