use Rattle.gc_image.proofs.TextLemmas.{one_text}
use Rattle.gc_image.proofs.parse.image_spelling_is_unique.Goals as goal

pub returns : goal.returns
returns c = one_text
