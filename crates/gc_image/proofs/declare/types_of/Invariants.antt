use Rattle.gc_image.proofs.TurnLemmas.{InTurn}
use Rattle.gc_image.proofs.declare.types_of.Given as goal

abbrev pub invariant-loop-command : goal.invariant-loop-command
invariant-loop-command l = InTurn l.commands l.types.declarations l.command-index
