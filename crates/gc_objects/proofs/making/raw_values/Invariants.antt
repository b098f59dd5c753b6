use Rattle.std.proofs.Common.{◌≡◌, map, take}
use Rattle.gc_objects.specs.Given.{raw_of}
use Rattle.gc_objects.proofs.making.raw_values.Given as goal

abbrev pub invariant-loop-value : goal.invariant-loop-value
invariant-loop-value l = l.raws.items ≡ map raw_of (take l.value-index l.values)
