use Rattle.gc_image.specs.Steps.{none_found}
use Rattle.gc_image.proofs.SeekLemmas.{global_named, held_all, named_more}
use Rattle.gc_image.proofs.reach.find_held.Goals as goal

pub loop-global-preserved : goal.loop-global-preserved
loop-global-preserved c =
    named_more global_named c.args.globals.now c.loop-global.global-index c.global-item.result (none_found c.args.count) c.loop-global.found c.find.new.found c.loop-global-test.true c.global-item.is c.loop-global.invariant
    c.in_ok-find.ensures

pub returns : goal.returns
returns c = held_all c.args.globals.now c.loop-global.global-index (none_found c.args.count) c.loop-global.found c.loop-global-test.false c.loop-global.invariant
