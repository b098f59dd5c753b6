use Rattle.std.proofs.Common.{◌≡◌, ◌++◌, length, map}
use Rattle.std.specs.List.{AllByRecursion}
use Rattle.gc_commands.specs.Spelling.{spelling}
use Rattle.gc_image.specs.Text.{FitsImageType}
use Rattle.gc_image.proofs.sections.read_types.Given as goal

abbrev pub invariant-loop-line : goal.invariant-loop-line
invariant-loop-line l = record {
  fit : AllByRecursion FitsImageType l.types.items;
  read : l.fn.lines ≡ map spelling l.types.items ++ l.lines;
}

abbrev pub decreases-loop-line : goal.decreases-loop-line
decreases-loop-line l = length l.lines
