use Rattle.std.proofs.Common.{◌≡◌, ◌++◌, length, map}
use Rattle.std.specs.List.{AllByRecursion}
use Rattle.gc_commands.specs.Spelling.{FitsOperand}
use Rattle.gc_commands.specs.Words.{operand_text}
use Rattle.gc_commands.proofs.parts.fill_operands.Given as goal

abbrev pub invariant-loop-word : goal.invariant-loop-word
invariant-loop-word l = record {
  fit : AllByRecursion FitsOperand l.list;
  read : l.fn.words ≡ map operand_text l.list ++ l.words;
}

abbrev pub decreases-loop-word : goal.decreases-loop-word
decreases-loop-word l = length l.words
