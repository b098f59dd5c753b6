use Rattle.std.proofs.Common.{length, refl}
use Rattle.std.proofs.lemmas.Option.{slice_get_read}
use Rattle.gc_image.specs.Well.{number_named}
use Rattle.gc_image_write.specs.Graphs.{early_values, named_values}
use Rattle.gc_image_write.specs.Order.{early_named}
use Rattle.gc_image_write.specs.Walking.{walk_parts}
use Rattle.gc_image_write.proofs.TakeLemmas.{gives_all, gives_more}
use Rattle.gc_image_write.proofs.WalkLemmas.{visits_went}
use Rattle.gc_image_write.proofs.numbering.visit_values.Goals as goal

pub loop-value-preserved : goal.loop-value-preserved
loop-value-preserved c =
    let types = c.args.types.now.declarations in let objects = c.args.objects.now in let values = c.args.values.now in let went = c.if-not-branch.false in
    record {
      visits =
          visits_went (early_named types objects) (walk_parts c.args.walk.now) (walk_parts c.loop-value.walk) (walk_parts c.visit_value.new.walk) c.in_ok-visit_value.field-0 went
          c.loop-value.invariant.visits c.in_ok-visit_value.ensures.visits;
      gives =
          gives_more (early_values types objects) (named_values objects) number_named values c.loop-value.value-index c.value-item.result c.args.walk.now.order.items c.loop-value.walk.order.items
          c.visit_value.new.walk.order.items (slice_get_read values (length values) c.loop-value.value-index c.value-item.result refl c.loop-value-test.true c.value-item.is)
          (c.in_ok-visit_value.ensures.visited went) c.loop-value.invariant.gives;
    }

pub returns-clause-visited : goal.returns-clause-visited
returns-clause-visited c = λ went.
    gives_all (early_values c.args.types.now.declarations c.args.objects.now) (named_values c.args.objects.now) number_named c.args.values.now c.loop-value.value-index c.args.walk.now.order.items
    c.loop-value.walk.order.items c.loop-value-test.false c.loop-value.invariant.gives
