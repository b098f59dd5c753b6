use Rattle.gc_commands.specs.Spelling.{FitsValue}
use Rattle.gc_commands.specs.Words.{value_type_text}
use Rattle.gc_commands.proofs.ReadingLemmas.{words_none}
use Rattle.gc_commands.proofs.declarations.read_values.Goals as goal

pub returns-in_default-value_of : goal.returns-in_default-value_of
returns-in_default-value_of c =
    words_none FitsValue value_type_text c.args.words.now c.loop-word.words c.next.new.self c.in-Some.word.now c.loop-word.values.items c.loop-word.invariant.read c.in-Some.ensures c.in_default-value_of.ensures
