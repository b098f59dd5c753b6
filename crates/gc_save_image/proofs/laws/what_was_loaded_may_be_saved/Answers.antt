use Rattle.std.proofs.Common.{List, subst}
use Rattle.gc_types.specs.Declarations.{Declaration}
use Rattle.gc_image_write.specs.Plain.{ArePlain}
use Rattle.gc_save_image.proofs.Tangles.{untangled}
use Rattle.gc_save_image.proofs.laws.what_was_loaded_may_be_saved.Goals as goal

pub returns-clause-plain : goal.returns-clause-plain
returns-clause-plain c = λ t t' bytes saved read.
    subst (λ (types : List Declaration). ArePlain types) (c.images_of_one_text_are_alike.ensures t t' bytes saved.images read).types saved.plain

pub returns-clause-apart : goal.returns-clause-apart
returns-clause-apart c = λ t bytes read tangle. untangled t read.image read.images tangle
