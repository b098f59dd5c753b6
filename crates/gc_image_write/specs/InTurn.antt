-- An image whose objects stand in the order that the rule gives them.
use Rattle.std.specs.Prelude.{ℕ, List, length}
use Rattle.std.specs.List.{range_with_len}
use Rattle.gc_model.specs.Table.{Table}
use Rattle.gc_image.specs.Images.{ImagesText}
use Rattle.gc_image.specs.Parts.{ImageParts}
use Rattle.gc_image.specs.Well.{IsWellImage}
use Rattle.gc_image_write.specs.Graphs.{graph_of}
use Rattle.gc_image_write.specs.Visiting.{IsNumbering}

abbrev pub IsInTurn : (image : ImageParts) → IsWellImage image → Type 0
IsInTurn image well = IsNumbering (graph_of well.types image.objects image.globals) (length image.objects) (range_with_len 0 (length image.objects))

-- bytes are the text of such an image of a table
pub record ImagesInTurn (t : Table ℕ) (bytes : List ℕ) : Type 0 where
  pub text : ImagesText t bytes
  pub in_turn : IsInTurn text.image text.images.well
