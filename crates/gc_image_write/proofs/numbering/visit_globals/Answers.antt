use Rattle.std.proofs.Common.{length, refl, subst, ◌∙◌}
use Rattle.std.proofs.lemmas.Option.{slice_get_read}
use Rattle.gc_image.specs.declared.image.GlobalLine.{GlobalLine}
use Rattle.gc_image.specs.Well.{number_named}
use Rattle.gc_image_write.specs.Graphs.{early_values, named_values}
use Rattle.gc_image_write.specs.Order.{early_named}
use Rattle.gc_image_write.specs.Visiting.{Followed}
use Rattle.gc_image_write.specs.Walking.{walk_parts}
use Rattle.gc_image_write.proofs.TakeLemmas.{numbers_all, numbers_more}
use Rattle.gc_image_write.proofs.WalkLemmas.{visits_went}
use Rattle.gc_image_write.proofs.numbering.visit_globals.Goals as goal

pub visit_value-requires-clause-named : goal.visit_value-requires-clause-named
visit_value-requires-clause-named c = λ number e.
    c.requires.held number (
      c.loop-global.global-index,
      c.global-item.result,
      (slice_get_read c.args.globals.now (length c.args.globals.now) c.loop-global.global-index c.global-item.result refl c.loop-global-test.true c.global-item.is, e),
    )

pub loop-global-preserved : goal.loop-global-preserved
loop-global-preserved c =
    let types = c.args.types.now.declarations in let objects = c.args.objects.now in let globals = c.args.globals.now in
    let start = c.args.walk.now in let old = c.loop-global.walk in let mid = c.visit_value.new.walk in let new = c.follow.new.walk in
    let visits =
    visits_went (early_named types objects) (walk_parts start) (walk_parts old) (walk_parts mid) c.in_ok-visit_value.field-0 c.if-not-branch.false c.loop-global.invariant.visits c.in_ok-visit_value.ensures.visits in
    record {
      visits = visits_went (early_named types objects) (walk_parts start) (walk_parts mid) (walk_parts new) c.in_ok-follow.field-0 c.if-not-branch-2.false visits c.in_ok-follow.ensures.visits;
      numbers =
          numbers_more (early_values types objects) (named_values objects) (λ (g : GlobalLine). number_named g.value) globals c.loop-global.global-index c.global-item.result
          start.order.items old.order.items mid.order.items new.order.items
          (slice_get_read globals (length globals) c.loop-global.global-index c.global-item.result refl c.loop-global-test.true c.global-item.is)
          (c.in_ok-visit_value.ensures.visited c.if-not-branch.false)
          (subst (λ n. Followed (early_values types objects) (named_values objects) n mid.order.items new.order.items) (c.len-from.ensures ∙ old.order.ok.0)
          (c.in_ok-follow.ensures.followed c.if-not-branch-2.false)) c.loop-global.invariant.numbers;
    }

pub returns-clause-numbered : goal.returns-clause-numbered
returns-clause-numbered c = λ went.
    numbers_all (early_values c.args.types.now.declarations c.args.objects.now) (named_values c.args.objects.now) (λ (g : GlobalLine). number_named g.value) c.args.globals.now
    c.loop-global.global-index c.args.walk.now.order.items c.loop-global.walk.order.items c.loop-global-test.false c.loop-global.invariant.numbers
