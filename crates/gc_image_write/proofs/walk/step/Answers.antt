use Rattle.std.proofs.Common.{◌≡◌, ◌<◌, ◌≤◌, Some, None, subst, sym, ◌∙◌}
use Rattle.gc_image_write.specs.Graphs.{value_count}
use Rattle.gc_image_write.specs.Order.{early_named}
use Rattle.gc_image_write.specs.Walking.{walk_parts}
use Rattle.gc_image_write.proofs.StackLemmas.{step_none, step_out}
use Rattle.gc_image_write.proofs.WalkLemmas.{goes_out, goes_past, last_within}
use Rattle.gc_image_write.proofs.walk.step.Goals as goal

pub close-requires : goal.close-requires
close-requires c = last_within (early_named c.args.types.now.declarations c.args.objects.now) (walk_parts c.args.walk.now) c.args.frame c.requires.walks

pub returns-then-frame-value_count-clause-went : goal.returns-then-frame-value_count-clause-went
returns-then-frame-value_count-clause-went c =
    goes_out (early_named c.args.types.now.declarations c.args.objects.now) (walk_parts c.args.walk.now) c.args.frame c.requires.walks c.value_count.result (walk_parts c.close.new.walk)
    c.if-frame-value_count.true (λ index y named. c.value_count.ensures.behind c.args.types.now.declarations index y named) c.in_ok-close.ensures

pub returns-in_ok-wait_further-in-None-clause-went : goal.returns-in_ok-wait_further-in-None-clause-went
returns-in_ok-wait_further-in-None-clause-went c =
    goes_past (early_named c.args.types.now.declarations c.args.objects.now) (walk_parts c.args.walk.now) c.args.frame c.requires.walks (walk_parts c.wait_further.new.walk) c.in_ok-wait_further-in-None.ensures
    (λ y named. let both : None ≡ Some y = c.in-None.ensures ∙ named in cc)

pub returns-then-frame-value_count-clause-leads : goal.returns-then-frame-value_count-clause-leads
returns-then-frame-value_count-clause-leads c = λ went.
    step_out (early_named c.args.types.now.declarations c.args.objects.now) (value_count c.args.objects.now) (walk_parts c.args.walk.now) c.args.frame c.requires.walks (walk_parts c.close.new.walk)
    (subst (λ n. n ≤ c.args.frame.next) c.value_count.ensures.counted c.if-frame-value_count.true) c.in_ok-close.ensures

pub returns-in_ok-wait_further-in-None-clause-leads : goal.returns-in_ok-wait_further-in-None-clause-leads
returns-in_ok-wait_further-in-None-clause-leads c = λ went.
    step_none (early_named c.args.types.now.declarations c.args.objects.now) (value_count c.args.objects.now) (walk_parts c.args.walk.now) c.args.frame c.requires.walks (walk_parts c.wait_further.new.walk) c.in_ok-wait_further-in-None.ensures
    (subst (λ n. c.args.frame.next < n) c.value_count.ensures.counted c.if-frame-value_count.false) (sym c.in-None.ensures)
