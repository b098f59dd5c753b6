use Rattle.std.proofs.Common.{◌<◌, ◌≤◌, length, refl, ◌∙◌, arith}
use Rattle.std.proofs.lemmas.Option.{slice_get_read}
use Rattle.gc_image_write.specs.Graphs.{early_values, named_values}
use Rattle.gc_image_write.specs.Order.{early_named}
use Rattle.gc_image_write.specs.Walking.{walk_parts}
use Rattle.gc_image_write.proofs.FewLemmas.{few_numbered}
use Rattle.gc_image_write.proofs.TakeLemmas.{follows_all, follows_more}
use Rattle.gc_image_write.proofs.WalkLemmas.{visits_went}
use Rattle.gc_image_write.proofs.numbering.follow.Goals as goal

pub returns-then-number-len-clause-followed : goal.returns-then-number-len-clause-followed
returns-then-number-len-clause-followed c = λ went.
    let order = c.loop-number.walk.order.items in
    let at_end : length order ≤ c.loop-number.number = omega (arith, c.len.ensures, c.if-number-len.true) in
    follows_all (early_values c.args.types.now.declarations c.args.objects.now) (named_values c.args.objects.now) c.args.from c.args.walk.now.order.items c.loop-number.number order at_end
    c.loop-number.invariant.follows

pub loop-number-preserved : goal.loop-number-preserved
loop-number-preserved c =
    let types = c.args.types.now.declarations in let objects = c.args.objects.now in let order = c.loop-number.walk.order.items in let went = c.if-not-branch.false in
    let within : c.loop-number.number < length order = omega (arith, c.len.ensures, c.if-number-len.false) in
    record {
      visits =
          visits_went (early_named types objects) (walk_parts c.args.walk.now) (walk_parts c.loop-number.walk) (walk_parts c.visit_named.new.walk) c.in_ok-visit_named.field-0 went
          c.loop-number.invariant.visits c.in_ok-visit_named.ensures.visits;
      follows =
          follows_more (early_values types objects) (named_values objects) c.args.from c.args.walk.now.order.items c.loop-number.number c.index-object.result.now order
          c.visit_named.new.walk.order.items (slice_get_read order (length order) c.loop-number.number c.index-object.result.now refl within c.index-object.ensures)
          (c.in_ok-visit_named.ensures.visited went) c.loop-number.invariant.follows;
    }

pub returns-clause-followed : goal.returns-clause-followed
returns-clause-followed c = λ went.
    let types = c.args.types.now.declarations in let objects = c.args.objects.now in let order = c.loop-number.walk.order.items in
    let visits = c.loop-number.invariant.visits in
    let few = few_numbered (early_named types objects) (length objects) (walk_parts c.loop-number.walk) visits.0 (visits.1.long ∙ c.requires.can.long) in
    let at_end : length order ≤ c.loop-number.number = omega (arith, few, c.loop-number-test.false) in
    follows_all (early_values types objects) (named_values objects) c.args.from c.args.walk.now.order.items c.loop-number.number order at_end c.loop-number.invariant.follows
