use Rattle.gc_drc.proofs.SweepMemory.{frame_room, frame_can, frame_marks, frame_passes, frame_skips}
use Rattle.gc_drc.proofs.DrainLemmas.{not_both}
use Rattle.gc_drc.proofs.space.CountedSpace.mark_frame.Goals as goal

pub is_marked-requires : goal.is_marked-requires
is_marked-requires c = frame_room c.args.self.now c.args.word c.requires (c.is_place.ensures.0 c.if-is_place.true)

pub mark-requires : goal.mark-requires
mark-requires c = frame_can c.args.self.now c.args.word c.is_marked.result c.requires (c.is_place.ensures.0 c.if-is_place.true) c.is_marked.ensures c.if-is_marked.false

pub returns-then-is_marked : goal.returns-then-is_marked
returns-then-is_marked c o left m =
    frame_passes o c.args.self.now c.args.word left c.is_marked.result m (c.is_place.ensures.0 c.if-is_place.true) c.is_marked.ensures c.if-is_marked.true

pub returns-else-is_marked : goal.returns-else-is_marked
returns-else-is_marked c o left m =
    frame_marks o c.args.self.now c.mark.new.self c.args.word left c.is_marked.result m (c.is_place.ensures.0 c.if-is_place.true) c.is_marked.ensures c.if-is_marked.false c.mark.ensures.marked

pub returns-else-is_place : goal.returns-else-is_place
returns-else-is_place c o left m =
    frame_skips o c.args.self.now c.args.word left m (λ is. not_both c.is_place.result c.if-is_place.false (c.is_place.ensures.1 is))
