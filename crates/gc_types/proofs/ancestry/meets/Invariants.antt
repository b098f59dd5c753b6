use Rattle.gc_types.proofs.AncestorLemmas.{Climbed}
use Rattle.gc_types.proofs.ancestry.meets.Given as goal

abbrev pub invariant-loop-entry : goal.invariant-loop-entry
invariant-loop-entry l = Climbed l.entries l.fn.sub l.sup l.ancestor l.entry

abbrev pub decreases-loop-entry : goal.decreases-loop-entry
decreases-loop-entry l = l.ancestor
