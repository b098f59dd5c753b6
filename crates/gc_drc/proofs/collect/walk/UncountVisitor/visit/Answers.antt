use Rattle.gc_drc.proofs.DrainLemmas.{not_both}
use Rattle.gc_drc.proofs.WalkMemory.{uncounts_room, uncounts_can, uncounts_takes, uncounts_passes, uncounts_skips}
use Rattle.gc_drc.proofs.collect.walk.UncountVisitor.visit.Goals as goal

pub is_marked-requires : goal.is_marked-requires
is_marked-requires c =
    let r = c.requires in
    uncounts_room r.0 r.1.0 c.args.space.now c.args.word r.1.1.0 r.1.1.1 (c.is_place.ensures.0 c.if-is_place.true)

pub uncount-requires : goal.uncount-requires
uncount-requires c =
    let r = c.requires in
    uncounts_can r.0 r.1.0 c.args.space.now c.args.word r.1.1.0 c.is_marked.result r.1.1.1 (c.is_place.ensures.0 c.if-is_place.true) c.is_marked.ensures c.if-is_marked.true

pub returns-then-is_marked : goal.returns-then-is_marked
returns-then-is_marked c o places rest u =
    uncounts_takes o places c.args.space.now c.uncount.new.self c.args.word rest c.is_marked.result u (c.is_place.ensures.0 c.if-is_place.true) c.is_marked.ensures c.if-is_marked.true
    c.uncount.ensures.counted c.uncount.ensures.kinds

pub returns-else-is_marked : goal.returns-else-is_marked
returns-else-is_marked c o places rest u =
    uncounts_passes o places c.args.space.now c.args.word rest c.is_marked.result u (c.is_place.ensures.0 c.if-is_place.true) c.is_marked.ensures c.if-is_marked.false

pub returns-else-is_place : goal.returns-else-is_place
returns-else-is_place c o places rest u =
    uncounts_skips o places c.args.space.now c.args.word rest u (λ is. not_both c.is_place.result c.if-is_place.false (c.is_place.ensures.1 is))
