use Rattle.std.proofs.Common.{◌+◌, ◌*◌}
use Rattle.gc_maps.proofs.copying.+parts.Given as goal

abbrev pub decreases-copy_part : goal.decreases-copy_part
decreases-copy_part g l = 2 * l.depth

abbrev pub decreases-copy_node : goal.decreases-copy_node
decreases-copy_node g l = 2 * l.depth + 1
