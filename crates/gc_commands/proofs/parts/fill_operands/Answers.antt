use Rattle.gc_commands.specs.Spelling.{FitsOperand}
use Rattle.gc_commands.specs.Words.{operand_text}
use Rattle.gc_commands.proofs.ReadingLemmas.{words_none}
use Rattle.gc_commands.proofs.parts.fill_operands.Goals as goal

pub returns-in_default-operand_of : goal.returns-in_default-operand_of
returns-in_default-operand_of c =
    words_none FitsOperand operand_text c.args.words.now c.loop-word.words c.next.new.self c.in-Some.word.now c.loop-word.list c.loop-word.invariant.read c.in-Some.ensures c.in_default-operand_of.ensures
