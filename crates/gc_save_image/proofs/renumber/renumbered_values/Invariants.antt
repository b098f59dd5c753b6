use Rattle.std.proofs.Common.{◌≡◌, map, take}
use Rattle.gc_save_image.specs.Renumbering.{new_number_in, renumbered_value}
use Rattle.gc_save_image.proofs.renumber.renumbered_values.Given as goal

abbrev pub invariant-loop-value : goal.invariant-loop-value
invariant-loop-value l = l.renumbered.items ≡ map (renumbered_value (new_number_in l.numbers)) (take l.value-index l.values)
