use Rattle.std.proofs.Common.{◌≡◌, ◌++◌, drop, length}
use Rattle.std.specs.Vec.Iter.{into_iter_items}
use Rattle.gcsh_top.proofs.program.words_of.Given as goal

abbrev pub invariant-loop-word : goal.invariant-loop-word
invariant-loop-word l = l.words.items ++ into_iter_items l.args ≡ drop 1 (into_iter_items l.fn.args)

abbrev pub decreases-loop-word : goal.decreases-loop-word
decreases-loop-word l = length (into_iter_items l.args)
