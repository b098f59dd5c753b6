use Rattle.std.proofs.Common.{true}
use Rattle.gc_image.specs.declared.image.GlobalLine.{GlobalLine}
use Rattle.gc_image.specs.Well.{number_named}
use Rattle.gc_image_write.specs.Graphs.{early_values, named_values}
use Rattle.gc_image_write.specs.Order.{early_named}
use Rattle.gc_image_write.specs.Walking.{LeavesIdle, walk_parts}
use Rattle.gc_image_write.proofs.TakeLemmas.{Numbers}
use Rattle.gc_image_write.proofs.numbering.visit_globals.Given as goal

abbrev pub invariant-loop-global : goal.invariant-loop-global
invariant-loop-global l = record {
  visits : LeavesIdle (early_named l.types.declarations l.objects) (walk_parts l.fn.walk) (walk_parts l.walk) true;
  numbers : Numbers (early_values l.types.declarations l.objects) (named_values l.objects) (λ (g : GlobalLine). number_named g.value) l.globals l.global-index l.fn.walk.order.items l.walk.order.items;
}
