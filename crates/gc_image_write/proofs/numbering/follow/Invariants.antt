use Rattle.std.proofs.Common.{true}
use Rattle.gc_image_write.specs.Graphs.{early_values, named_values}
use Rattle.gc_image_write.specs.Order.{early_named}
use Rattle.gc_image_write.specs.Walking.{LeavesIdle, walk_parts}
use Rattle.gc_image_write.proofs.TakeLemmas.{Follows}
use Rattle.gc_image_write.proofs.numbering.follow.Given as goal

abbrev pub invariant-loop-number : goal.invariant-loop-number
invariant-loop-number l = record {
  visits : LeavesIdle (early_named l.types.declarations l.objects) (walk_parts l.fn.walk) (walk_parts l.walk) true;
  follows : Follows (early_values l.types.declarations l.objects) (named_values l.objects) l.from l.fn.walk.order.items l.number l.walk.order.items;
}
