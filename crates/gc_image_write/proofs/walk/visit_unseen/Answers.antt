use Rattle.std.proofs.Common.{sym, ◌∙◌}
use Rattle.std.proofs.lemmas.Option.{slice_get_within}
use Rattle.gc_image_write.specs.declared.walk.Mark.TheVariants.{Unseen}
use Rattle.gc_image_write.specs.Graphs.{value_count}
use Rattle.gc_image_write.specs.Order.{early_named}
use Rattle.gc_image_write.specs.Walking.{walk_parts}
use Rattle.gc_image_write.proofs.StackLemmas.{began, ended}
use Rattle.gc_image_write.proofs.WalkLemmas.{begun, ended_popped}
use Rattle.gc_image_write.proofs.walk.visit_unseen.Goals as goal

pub loop-init : goal.loop-init
loop-init c = record {
  stands =
      begun (early_named c.args.types.now.declarations c.args.objects.now) (walk_parts c.args.walk.now) (walk_parts c.open.new.walk) c.args.object c.requires.idle c.requires.unseen c.in_ok-open.ensures;
  began =
      began (early_named c.args.types.now.declarations c.args.objects.now) (value_count c.args.objects.now) (walk_parts c.args.walk.now) (walk_parts c.open.new.walk) c.args.object c.requires.idle.idle
      c.in_ok-open.ensures;
}

pub returns-in-None-clause-one : goal.returns-in-None-clause-one
returns-in-None-clause-one c =
    ended_popped (early_named c.args.types.now.declarations c.args.objects.now) (walk_parts c.args.walk.now) (walk_parts c.loop.walk) c.pop.new.self.items c.args.object
    (slice_get_within c.args.walk.now.marks.items c.args.object Unseen c.requires.unseen) c.in-None.ensures.items (sym c.loop.walk.stack.ok.0 ∙ c.in-None.ensures.cases.0) c.loop.invariant.stands

pub returns-in-None-clause-visited : goal.returns-in-None-clause-visited
returns-in-None-clause-visited c = λ went.
    ended (early_named c.args.types.now.declarations c.args.objects.now) (value_count c.args.objects.now) (walk_parts c.args.walk.now) (walk_parts c.loop.walk) c.args.object c.requires.idle c.requires.unseen
    (sym c.loop.walk.stack.ok.0 ∙ c.in-None.ensures.cases.0) c.loop.invariant.began
