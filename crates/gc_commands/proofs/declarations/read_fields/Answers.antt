use Rattle.gc_commands.specs.Spelling.{FitsField}
use Rattle.gc_commands.specs.Words.{field_text}
use Rattle.gc_commands.proofs.ReadingLemmas.{words_none}
use Rattle.gc_commands.proofs.declarations.read_fields.Goals as goal

pub returns-in_default-field_of : goal.returns-in_default-field_of
returns-in_default-field_of c =
    words_none FitsField field_text c.args.words.now c.loop-word.words c.next.new.self c.in-Some.word.now c.loop-word.fields.items c.loop-word.invariant.read c.in-Some.ensures c.in_default-field_of.ensures
