use Rattle.std.proofs.Common.{◌≡◌, ◌++◌, length, map}
use Rattle.std.specs.List.{AllByRecursion}
use Rattle.gc_image.specs.Text.{FitsImageValue, value_text}
use Rattle.gc_image.proofs.object_lines.read_values.Given as goal

abbrev pub invariant-loop-word : goal.invariant-loop-word
invariant-loop-word l = record {
  fit : AllByRecursion FitsImageValue l.values.items;
  read : l.fn.words ≡ map value_text l.values.items ++ l.words;
}

abbrev pub decreases-loop-word : goal.decreases-loop-word
decreases-loop-word l = length l.words
