use Rattle.std.proofs.Common.{◌≡◌, ℕ, ◌<◌, Some, length, true}
use Rattle.std.specs.List.{range_with_len, slice_get}
use Rattle.gc_image_write.specs.Graphs.{early_values, named_values}
use Rattle.gc_image_write.specs.Order.{early_named}
use Rattle.gc_image_write.specs.Walking.{LeavesIdle, walk_parts}
use Rattle.gc_image_write.proofs.TakeLemmas.{Gives}
use Rattle.gc_image_write.proofs.numbering.visit_rest.Given as goal

abbrev pub invariant-loop-object : goal.invariant-loop-object
invariant-loop-object l = record {
  all : LeavesIdle (early_named l.types.declarations l.objects) (walk_parts l.fn.walk) (walk_parts l.walk) true × ((x : ℕ) → x < l.object → (n : ℕ) × (slice_get l.walk.order.items n ≡ Some x));
  gives : Gives (early_values l.types.declarations l.objects) (named_values l.objects) Some (range_with_len 0 (length l.objects)) l.object l.fn.walk.order.items l.walk.order.items;
}
