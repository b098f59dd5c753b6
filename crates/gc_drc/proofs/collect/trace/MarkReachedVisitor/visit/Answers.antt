use Rattle.std.proofs.Common.{rules, ◌<◌, ◌^◌}
use Rattle.gc_drc.proofs.DrainLemmas.{not_both}
use Rattle.gc_drc.proofs.TraceMemory.{word_room, word_can, marked_room, traces_marks, traces_passes, traces_skips, some_fresh}
use Rattle.gc_drc.proofs.collect.trace.MarkReachedVisitor.visit.Goals as goal

pub is_marked-requires : goal.is_marked-requires
is_marked-requires c =
    let r = c.requires in
    word_room r.0 r.1.0 c.args.space.now c.args.self.now.head c.args.self.now.fresh c.args.word r.1.1.0 r.1.1.1 (c.is_place.ensures.0 c.if-is_place.true)

pub mark-requires : goal.mark-requires
mark-requires c =
    let r = c.requires in
    word_can r.0 r.1.0 c.args.space.now c.args.self.now.head c.args.self.now.fresh c.args.word r.1.1.0 c.is_marked.result r.1.1.1 (c.is_place.ensures.0 c.if-is_place.true) c.is_marked.ensures c.if-is_marked.false

pub set_link-requires : goal.set_link-requires
set_link-requires c =
    let r = c.requires in
    marked_room r.0 r.1.0 c.args.space.now c.mark.new.self c.args.self.now.head c.args.self.now.fresh c.args.word r.1.1.0 c.is_marked.result r.1.1.1 (c.is_place.ensures.0 c.if-is_place.true) c.is_marked.ensures c.if-is_marked.false c.mark.ensures.marked

pub overflow_sub-self : goal.overflow_sub-self
overflow_sub-self c =
    let r = c.requires in
    some_fresh r.0 r.1.0 c.args.space.now c.args.self.now.head c.args.self.now.fresh c.args.word r.1.1.0 c.is_marked.result r.1.1.1 (c.is_place.ensures.0 c.if-is_place.true) c.is_marked.ensures c.if-is_marked.false

pub returns-then-is_marked : goal.returns-then-is_marked
returns-then-is_marked c o unscanned rest t =
    traces_passes o unscanned c.args.space.now c.args.self.now.head c.args.self.now.fresh c.args.word rest c.is_marked.result t (c.is_place.ensures.0 c.if-is_place.true) c.is_marked.ensures c.if-is_marked.true

pub returns-else-is_marked : goal.returns-else-is_marked
returns-else-is_marked c o unscanned rest t =
    let small : c.args.self.now.head < 2 ^ 32 = search rules in
    traces_marks o unscanned c.args.space.now c.mark.new.self c.set_link.new.self c.args.self.now.head c.args.self.now.fresh c.args.word rest c.is_marked.result t (c.is_place.ensures.0 c.if-is_place.true) c.is_marked.ensures c.if-is_marked.false
    small c.mark.ensures.marked c.mark.ensures.links c.set_link.ensures

pub returns-else-is_place : goal.returns-else-is_place
returns-else-is_place c o unscanned rest t =
    traces_skips o unscanned c.args.space.now c.args.self.now.head c.args.self.now.fresh c.args.word rest t (λ is. not_both c.is_place.result c.if-is_place.false (c.is_place.ensures.1 is))
