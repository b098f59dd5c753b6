use Rattle.std.proofs.Common.{rules, ◌<◌, ◌-◌, ◌^◌, arith}
use Rattle.gc_drc.proofs.ListChanges.{leavable, room_counted, flag_counted, room_left, left_queue}
use Rattle.gc_drc.proofs.space.CountedSpace.leave_queue.Goals as goal

pub count-count-requires : goal.count-count-requires
count-count-requires c = (leavable c.args.self.now c.args.place c.requires).room

pub overflow_sub-count : goal.overflow_sub-count
overflow_sub-count c = omega (arith, (leavable c.args.self.now c.args.place c.requires).count, c.count-count.ensures)

pub set_count-requires : goal.set_count-requires
set_count-requires c = (leavable c.args.self.now c.args.place c.requires).room

pub kind_word-kind_word-requires : goal.kind_word-kind_word-requires
kind_word-kind_word-requires c =
    let small : c.count-count.result - 1 < 2 ^ 64 = search rules in
    (room_counted c.args.self.now c.set_count.new.self c.args.place (c.count-count.result - 1) (leavable c.args.self.now c.args.place c.requires).room small c.set_count.ensures).0

pub overflow_sub-kind_word : goal.overflow_sub-kind_word
overflow_sub-kind_word c =
    let small : c.count-count.result - 1 < 2 ^ 64 = search rules in
    flag_counted c.args.self.now c.set_count.new.self c.args.place (c.count-count.result - 1) c.kind_word-kind_word.result c.requires small c.set_count.ensures c.kind_word-kind_word.ensures

pub set_kind_word-requires : goal.set_kind_word-requires
set_kind_word-requires c =
    let small : c.count-count.result - 1 < 2 ^ 64 = search rules in
    (room_counted c.args.self.now c.set_count.new.self c.args.place (c.count-count.result - 1) (leavable c.args.self.now c.args.place c.requires).room small c.set_count.ensures).0

pub link-self-requires : goal.link-self-requires
link-self-requires c =
    let small : c.count-count.result - 1 < 2 ^ 64 = search rules in
    let small_k : c.kind_word-kind_word.result < 2 ^ 32 = search rules in
    room_left c.args.self.now c.set_count.new.self c.set_kind_word.new.self c.args.place (c.count-count.result - 1) c.kind_word-kind_word.result c.requires small c.set_count.ensures
    c.kind_word-kind_word.ensures small_k c.set_kind_word.ensures

pub returns : goal.returns
returns c o v rest at is more =
    let small : c.count-count.result < 2 ^ 64 = search rules in
    let small_k : c.kind_word-kind_word.result < 2 ^ 32 = search rules in
    left_queue o v c.args.self.now c.set_count.new.self c.set_kind_word.new.self c.args.place c.count-count.result c.kind_word-kind_word.result c.link-self.result rest
    c.count-count.ensures small c.set_count.ensures c.kind_word-kind_word.ensures small_k c.set_kind_word.ensures c.link-self.ensures at is more
