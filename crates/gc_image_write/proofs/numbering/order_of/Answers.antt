use Rattle.std.proofs.Common.{length, subst, sym, ◌∙◌}
use Rattle.gc_image_write.specs.Graphs.{early_values, held_by, named_values}
use Rattle.gc_image_write.specs.Order.{early_named}
use Rattle.gc_image_write.specs.Visiting.{Numbered}
use Rattle.gc_image_write.specs.Walking.{walk_parts}
use Rattle.gc_image_write.proofs.OrderLemmas.{early_below, fresh_walk, ordered}
use Rattle.gc_image_write.proofs.numbering.order_of.Goals as goal

pub visit_globals-requires-clause-can : goal.visit_globals-requires-clause-can
visit_globals-requires-clause-can c =
    fresh_walk (early_named c.args.types.now.declarations c.args.objects.now) (length c.args.objects.now) (walk_parts (record { marks = c.in_ok-vec.field-0; order = c.new.result; stack = c.new-2.result }))
    (c.in_ok-vec.ensures.items_if_clones_equal (λ y e. e)) (sym c.in_ok-vec.field-0.ok.0 ∙ c.in_ok-vec.ensures.len) c.new.ensures.items c.new-2.ensures.items
    (early_below c.args.types.now.declarations c.args.objects.now c.requires.closed)

pub returns-clause-some : goal.returns-clause-some
returns-clause-some c =
    ordered (early_named c.args.types.now.declarations c.args.objects.now) (length c.args.objects.now) (walk_parts c.visit_rest.new.walk) c.in_ok-visit_rest.field-0
    c.if-not-branch-2.false c.in_ok-visit_rest.ensures.all

pub returns-clause-numbered : goal.returns-clause-numbered
returns-clause-numbered c =
    let types = c.args.types.now.declarations in let objects = c.args.objects.now in
    record {
      reached = c.visit_globals.new.walk.order.items;
      globals =
          subst (λ start. Numbered (early_values types objects) (named_values objects) (held_by c.args.globals.now) start c.visit_globals.new.walk.order.items) c.new.ensures.items
          (c.in_ok-visit_globals.ensures.numbered c.if-not-branch.false);
      rest = c.in_ok-visit_rest.ensures.visited c.if-not-branch-2.false;
    }
