use Rattle.gc_image.specs.Well.{number_named}
use Rattle.gc_image.proofs.ElementLemmas.{item_found}
use Rattle.gc_image.proofs.SeekLemmas.{named_more, names_all}
use Rattle.gc_image.proofs.reach.find_named.Goals as goal

pub loop-value-preserved : goal.loop-value-preserved
loop-value-preserved c =
    named_more number_named c.values_of-values.result.now c.loop-value.value-index c.value-item.result c.args.found.now c.loop-value.found c.find.new.found c.loop-value-test.true c.value-item.is c.loop-value.invariant
    c.in_ok-find.ensures

pub returns : goal.returns
returns c =
    names_all c.args.objects.now c.args.number c.in-Some.line.now c.values_of-values.result.now c.loop-value.value-index c.args.found.now c.loop-value.found
    (item_found c.args.objects.now c.args.number c.in-Some.line.now c.in-Some.ensures.lookup.3.0 c.in-Some.ensures.lookup.1) c.values_of-values.ensures c.loop-value-test.false c.loop-value.invariant
