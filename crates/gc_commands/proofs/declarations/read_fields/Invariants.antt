use Rattle.std.proofs.Common.{◌≡◌, ◌++◌, length, map}
use Rattle.std.specs.List.{AllByRecursion}
use Rattle.gc_commands.specs.Spelling.{FitsField}
use Rattle.gc_commands.specs.Words.{field_text}
use Rattle.gc_commands.proofs.declarations.read_fields.Given as goal

abbrev pub invariant-loop-word : goal.invariant-loop-word
invariant-loop-word l = record {
  fit : AllByRecursion FitsField l.fields.items;
  read : l.fn.words ≡ map field_text l.fields.items ++ l.words;
}

abbrev pub decreases-loop-word : goal.decreases-loop-word
decreases-loop-word l = length l.words
