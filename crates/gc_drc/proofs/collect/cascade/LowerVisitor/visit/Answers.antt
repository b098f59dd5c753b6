use Rattle.gc_drc.proofs.DrainLemmas.{lowering_can, lowering_lowers, lowering_skips, not_both}
use Rattle.gc_drc.proofs.collect.cascade.LowerVisitor.visit.Goals as goal

pub take_name-requires : goal.take_name-requires
take_name-requires c =
    let r = c.requires in
    lowering_can r.0 r.1.0 c.args.space.now c.args.word r.1.1.0 r.1.1.1 (c.is_place.ensures.0 c.if-is_place.true)

pub returns-then-is_place : goal.returns-then-is_place
returns-then-is_place c o places rest l =
    lowering_lowers o places c.args.space.now c.take_name.new.self c.args.word rest l (c.is_place.ensures.0 c.if-is_place.true) c.take_name.ensures

pub returns-else-is_place : goal.returns-else-is_place
returns-else-is_place c o places rest l =
    lowering_skips o places c.args.space.now c.args.word rest l (λ is. not_both c.is_place.result c.if-is_place.false (c.is_place.ensures.1 is))
