use Rattle.gc_commands.proofs.ReadingLemmas.{words_none}
use Rattle.gc_image.specs.Text.{FitsImageValue, value_text}
use Rattle.gc_image.proofs.object_lines.read_values.Goals as goal

pub returns-in_default-value_of : goal.returns-in_default-value_of
returns-in_default-value_of c =
    words_none FitsImageValue value_text c.args.words.now c.loop-word.words c.next.new.self c.in-Some.word.now c.loop-word.values.items c.loop-word.invariant.read c.in-Some.ensures c.in_default-value_of.ensures
