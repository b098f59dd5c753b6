use Rattle.std.proofs.Common.{Some, length, refl, ap, ◌∙◌}
use Rattle.std.proofs.lemmas.Option.{slice_get_read}
use Rattle.gc_image_write.specs.Graphs.{early_values}
use Rattle.gc_image_write.specs.Order.{early_named}
use Rattle.gc_image_write.specs.Walking.{walk_parts}
use Rattle.gc_image_write.proofs.StackLemmas.{visited_seen}
use Rattle.gc_image_write.proofs.WalkLemmas.{onward_same, seen_numbered}
use Rattle.gc_image_write.proofs.walk.visit.Goals as goal

pub visit_unseen-requires : goal.visit_unseen-requires
visit_unseen-requires c =
    let marks = c.args.walk.now.marks.items in
    record {
      below = c.requires.below;
      idle = c.requires.idle;
      unseen = slice_get_read marks (length marks) c.args.object c.index.result.now refl c.requires.within c.index.ensures ∙ ap Some c.in-Unseen.is;
    }

pub returns-in-Open-clause-one : goal.returns-in-Open-clause-one
returns-in-Open-clause-one c =
    let marks = c.args.walk.now.marks.items in (
      c.requires.idle,
      onward_same (walk_parts c.args.walk.now),
      seen_numbered (early_named c.args.types.now.declarations c.args.objects.now) (walk_parts c.args.walk.now) c.args.object c.index.result.now c.requires.idle
          (slice_get_read marks (length marks) c.args.object c.index.result.now refl c.requires.within c.index.ensures) (λ e. cc),
    )

pub returns-in-Numbered-clause-one : goal.returns-in-Numbered-clause-one
returns-in-Numbered-clause-one c =
    let marks = c.args.walk.now.marks.items in (
      c.requires.idle,
      onward_same (walk_parts c.args.walk.now),
      seen_numbered (early_named c.args.types.now.declarations c.args.objects.now) (walk_parts c.args.walk.now) c.args.object c.index.result.now c.requires.idle
          (slice_get_read marks (length marks) c.args.object c.index.result.now refl c.requires.within c.index.ensures) (λ e. cc),
    )

pub returns-in-Open-clause-visited : goal.returns-in-Open-clause-visited
returns-in-Open-clause-visited c = λ went.
    let marks = c.args.walk.now.marks.items in
    visited_seen (early_values c.args.types.now.declarations c.args.objects.now) c.args.object c.args.walk.now.order.items
    (seen_numbered (early_named c.args.types.now.declarations c.args.objects.now) (walk_parts c.args.walk.now) c.args.object c.index.result.now c.requires.idle
    (slice_get_read marks (length marks) c.args.object c.index.result.now refl c.requires.within c.index.ensures) (λ e. cc))

pub returns-in-Numbered-clause-visited : goal.returns-in-Numbered-clause-visited
returns-in-Numbered-clause-visited c = λ went.
    let marks = c.args.walk.now.marks.items in
    visited_seen (early_values c.args.types.now.declarations c.args.objects.now) c.args.object c.args.walk.now.order.items
    (seen_numbered (early_named c.args.types.now.declarations c.args.objects.now) (walk_parts c.args.walk.now) c.args.object c.index.result.now c.requires.idle
    (slice_get_read marks (length marks) c.args.object c.index.result.now refl c.requires.within c.index.ensures) (λ e. cc))
