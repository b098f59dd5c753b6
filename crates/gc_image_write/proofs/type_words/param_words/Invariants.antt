use Rattle.std.proofs.Common.{◌≡◌, Some, map}
use Rattle.gc_types.specs.Declarations.{constant_field, fields_at}
use Rattle.gc_image_write.specs.TypeWords.{WordsValue}
use Rattle.gc_image_write.proofs.WordLemmas.{WordsSoFar}
use Rattle.gc_image_write.proofs.type_words.param_words.Given as goal

abbrev pub invariant-loop-index : goal.invariant-loop-index
invariant-loop-index l = WordsSoFar WordsValue (λ params. fields_at l.types.declarations l.ty ≡ Some (map constant_field params)) l.index l.words.items
