use Rattle.std.proofs.Common.{get_or}
use Rattle.std.proofs.lemmas.Option.{slice_get-get_or}
use Rattle.gc_save_image.proofs.Renumbered.{line_more}
use Rattle.gc_save_image.specs.Renumbering.{new_number_in}
use Rattle.gc_save_image.proofs.renumber.renumbered_objects.Goals as goal

pub loop-old-preserved : goal.loop-old-preserved
loop-old-preserved c =
    line_more (new_number_in c.args.numbers.now) c.args.objects.now c.args.order.now c.loop-old.old-index c.loop-old.lines.items c.push.new.self.items c.index-objects-old.result c.in_ok-renumbered_line.field-0
    c.loop-old-test.true (c.requires c.loop-old.old-index (get_or c.args.order.now c.loop-old.old-index 0) (slice_get-get_or c.args.order.now c.loop-old.old-index 0 c.loop-old-test.true))
    c.loop-old.invariant c.index-objects-old.is c.in_ok-renumbered_line.ensures c.in_ok-push.ensures.items
