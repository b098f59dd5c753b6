use Rattle.gc_image_write.proofs.TurnLemmas.{CommandsSoFar}
use Rattle.gc_image_write.proofs.commands.commands_of.Given as goal

abbrev pub invariant-loop-index : goal.invariant-loop-index
invariant-loop-index l = CommandsSoFar l.types.declarations l.index l.commands.items
