use Rattle.gc_image.proofs.AlikeLemmas.{alike_texts}
use Rattle.gc_image.proofs.laws.images_of_one_text_are_alike.Goals as goal

pub returns : goal.returns
returns c = alike_texts
