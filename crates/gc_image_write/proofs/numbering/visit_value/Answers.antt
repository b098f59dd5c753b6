use Rattle.gc_image.specs.Well.{number_named}
use Rattle.gc_image_write.specs.Graphs.{early_values}
use Rattle.gc_image_write.proofs.TakeLemmas.{visited_no}
use Rattle.gc_image_write.proofs.numbering.visit_value.Goals as goal

pub returns-in-None-clause-visited : goal.returns-in-None-clause-visited
returns-in-None-clause-visited c = λ went.
    visited_no (early_values c.args.types.now.declarations c.args.objects.now) c.args.walk.now.order.items (number_named c.args.value.now) c.in-None.ensures
