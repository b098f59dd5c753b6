use Rattle.std.proofs.Common.{true}
use Rattle.gc_image.specs.Well.{number_named}
use Rattle.gc_image_write.specs.Graphs.{early_values, named_values}
use Rattle.gc_image_write.specs.Order.{early_named}
use Rattle.gc_image_write.specs.Walking.{LeavesIdle, walk_parts}
use Rattle.gc_image_write.proofs.TakeLemmas.{Gives}
use Rattle.gc_image_write.proofs.numbering.visit_values.Given as goal

abbrev pub invariant-loop-value : goal.invariant-loop-value
invariant-loop-value l = record {
  visits : LeavesIdle (early_named l.types.declarations l.objects) (walk_parts l.fn.walk) (walk_parts l.walk) true;
  gives : Gives (early_values l.types.declarations l.objects) (named_values l.objects) number_named l.values l.value-index l.fn.walk.order.items l.walk.order.items;
}
