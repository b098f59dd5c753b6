use Rattle.std.proofs.Common.{Option, sym, subst}
use Rattle.std.proofs.lemmas.Option.{slice_get_past}
use Rattle.gc_image.specs.declared.image.ObjectLine.{ObjectLine}
use Rattle.gc_image_write.specs.Graphs.{early_values, named_in, values_in}
use Rattle.gc_image_write.specs.Visiting.{Visited, none}
use Rattle.gc_image_write.proofs.numbering.visit_named.Goals as goal

pub returns-in-None-clause-visited : goal.returns-in-None-clause-visited
returns-in-None-clause-visited c = λ went.
    subst (λ (o : Option ObjectLine). Visited (early_values c.args.types.now.declarations c.args.objects.now) (named_in (values_in o)) c.args.walk.now.order.items c.args.walk.now.order.items)
    (sym (slice_get_past c.args.objects.now c.args.object c.in-None.ensures.lookup.3)) none
