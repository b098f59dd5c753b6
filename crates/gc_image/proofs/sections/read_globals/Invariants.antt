use Rattle.std.proofs.Common.{◌≡◌, ◌++◌, length, map}
use Rattle.std.specs.List.{AllByRecursion}
use Rattle.gc_image.specs.Text.{FitsGlobal, global_text}
use Rattle.gc_image.proofs.sections.read_globals.Given as goal

abbrev pub invariant-loop-line : goal.invariant-loop-line
invariant-loop-line l = record {
  fit : AllByRecursion FitsGlobal l.globals.items;
  read : l.fn.lines ≡ map global_text l.globals.items ++ l.lines;
}

abbrev pub decreases-loop-line : goal.decreases-loop-line
decreases-loop-line l = length l.lines
