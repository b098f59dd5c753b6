use Rattle.std.proofs.Common.{◌≡◌, take}
use Rattle.gc_save_image.specs.Renumbering.{new_number_in, reordered}
use Rattle.gc_save_image.proofs.renumber.renumbered_objects.Given as goal

abbrev pub invariant-loop-old : goal.invariant-loop-old
invariant-loop-old l = l.lines.items ≡ reordered (new_number_in l.numbers) l.objects (take l.old-index l.order)
