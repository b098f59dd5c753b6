use Rattle.std.proofs.Common.{◌≡◌, Some}
use Rattle.std.specs.List.{slice_get}
use Rattle.gc_image_write.specs.declared.walk.Mark.TheVariants.{Unseen}
use Rattle.gc_image_write.specs.Graphs.{value_count}
use Rattle.gc_image_write.specs.Order.{early_named}
use Rattle.gc_image_write.specs.Walking.{IsWalk, Onward, walk_parts}
use Rattle.gc_image_write.proofs.StackLemmas.{Began}
use Rattle.gc_image_write.proofs.walk.visit_unseen.Given as goal

abbrev pub invariant-loop : goal.invariant-loop
invariant-loop l = record {
  stands : IsWalk (early_named l.types.declarations l.objects) (walk_parts l.walk) × Onward (walk_parts l.fn.walk) (walk_parts l.walk) × (¬ (slice_get l.walk.marks.items l.object ≡ Some Unseen));
  began : Began (early_named l.types.declarations l.objects) (value_count l.objects) l.object l.fn.walk.order.items (walk_parts l.walk);
}
