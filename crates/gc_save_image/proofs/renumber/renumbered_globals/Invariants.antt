use Rattle.std.proofs.Common.{◌≡◌, map, take}
use Rattle.gc_save_image.specs.Renumbering.{new_number_in, renumbered_global}
use Rattle.gc_save_image.proofs.renumber.renumbered_globals.Given as goal

abbrev pub invariant-loop-global : goal.invariant-loop-global
invariant-loop-global l = l.lines.items ≡ map (renumbered_global (new_number_in l.numbers)) (take l.global-index l.globals)
