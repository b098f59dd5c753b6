use Rattle.std.proofs.Common.{◌≡◌, ◌++◌, length, map}
use Rattle.std.specs.List.{AllByRecursion}
use Rattle.gc_image.specs.Text.{FitsObject, object_text}
use Rattle.gc_image.proofs.sections.read_objects.Given as goal

abbrev pub invariant-loop : goal.invariant-loop
invariant-loop l = record {
  fit : AllByRecursion FitsObject l.objects.items;
  long : length l.objects.items ≡ l.counter;
  read : l.fn.lines ≡ map object_text l.objects.items ++ l.lines;
}
