use Rattle.std.proofs.Common.{◌≡◌, Some}
use Rattle.gc_types.specs.Declarations.{fields_at}
use Rattle.gc_image_write.specs.TypeWords.{WordsField}
use Rattle.gc_image_write.proofs.WordLemmas.{WordsSoFar}
use Rattle.gc_image_write.proofs.type_words.field_words.Given as goal

abbrev pub invariant-loop-index : goal.invariant-loop-index
invariant-loop-index l = WordsSoFar WordsField (λ fields. fields_at l.types.declarations l.ty ≡ Some fields) l.index l.words.items
