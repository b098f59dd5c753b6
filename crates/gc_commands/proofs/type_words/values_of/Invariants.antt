use Rattle.gc_commands.specs.TypeWords.{kinds_with, value_type_of}
use Rattle.gc_commands.proofs.EachLemmas.{SpelledSoFar}
use Rattle.gc_commands.proofs.type_words.values_of.Given as goal

abbrev pub invariant-loop-word : goal.invariant-loop-word
invariant-loop-word l = SpelledSoFar (value_type_of (kinds_with l.types.declarations l.own)) l.words l.values.items l.word-index
