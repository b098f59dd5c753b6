use Rattle.gc_save_image.proofs.Elements.{NumberedSoFar}
use Rattle.gc_save_image.proofs.renumber.numbers_of.Given as goal

abbrev pub invariant-loop-number : goal.invariant-loop-number
invariant-loop-number l = NumberedSoFar l.order l.count l.number l.numbers.items
