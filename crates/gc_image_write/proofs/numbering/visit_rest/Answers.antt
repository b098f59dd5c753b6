use Rattle.std.proofs.Common.{◌≤◌, Some, length, arith, subst}
use Rattle.std.specs.List.{range_with_len}
use Rattle.std.proofs.lemmas.List.FromFn.{length-range_with_len}
use Rattle.gc_image_write.specs.Graphs.{early_values, named_values}
use Rattle.gc_image_write.specs.Order.{early_named}
use Rattle.gc_image_write.specs.Visiting.{Visited}
use Rattle.gc_image_write.specs.Walking.{walk_parts}
use Rattle.gc_image_write.proofs.OrderLemmas.{rest_more}
use Rattle.gc_image_write.proofs.TakeLemmas.{all_some, gives_all, gives_more, range_at}
use Rattle.gc_image_write.proofs.numbering.visit_rest.Goals as goal

pub loop-object-preserved : goal.loop-object-preserved
loop-object-preserved c =
    let types = c.args.types.now.declarations in let objects = c.args.objects.now in let went = c.if-not-branch.false in record {
      all =
          rest_more (early_named types objects) (walk_parts c.args.walk.now) (walk_parts c.loop-object.walk) (walk_parts c.visit.new.walk) c.loop-object.object c.in_ok-visit.field-0 went
          c.in_ok-visit.ensures.one c.loop-object.invariant.all;
      gives =
          gives_more (early_values types objects) (named_values objects) Some (range_with_len 0 (length objects)) c.loop-object.object c.loop-object.object c.args.walk.now.order.items
          c.loop-object.walk.order.items c.visit.new.walk.order.items (range_at (length objects) c.loop-object.object c.loop-object-test.true) (c.in_ok-visit.ensures.visited went)
          c.loop-object.invariant.gives;
    }

pub returns-clause-visited : goal.returns-clause-visited
returns-clause-visited c = λ went.
    let types = c.args.types.now.declarations in let objects = c.args.objects.now in
    let at_end : length (range_with_len 0 (length objects)) ≤ c.loop-object.object = omega (arith, length-range_with_len 0 (length objects), c.loop-object-test.false) in
    subst (λ xs. Visited (early_values types objects) xs c.args.walk.now.order.items c.loop-object.walk.order.items) (all_some (range_with_len 0 (length objects)))
    (gives_all (early_values types objects) (named_values objects) Some (range_with_len 0 (length objects)) c.loop-object.object c.args.walk.now.order.items c.loop-object.walk.order.items at_end
    c.loop-object.invariant.gives)
