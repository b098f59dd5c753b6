use Rattle.std.proofs.Common.{rules, ◌<◌, ◌^◌, refl}
use Rattle.gc_drc.proofs.ListChanges.{hideable, after_relink, hidden_at}
use Rattle.gc_drc.proofs.space.CountedSpace.hide.Goals as goal

pub next_shown-next-requires : goal.next_shown-next-requires
next_shown-next-requires c = (hideable c.args.self.now c.args.before c.args.place c.requires).room

pub relink-requires : goal.relink-requires
relink-requires c = record { room = (hideable c.args.self.now c.args.before c.args.place c.requires).room_before }

pub kind_word-kind_word-requires : goal.kind_word-kind_word-requires
kind_word-kind_word-requires c =
    let fits : c.next_shown-next.result < 2 ^ 32 = search rules in
    (after_relink c.args.self.now c.relink.new.self c.args.before c.next_shown-next.result c.args.place _ c.requires c.relink.ensures fits refl).0

pub overflow_sub-kind_word : goal.overflow_sub-kind_word
overflow_sub-kind_word c =
    let fits : c.next_shown-next.result < 2 ^ 32 = search rules in
    (after_relink c.args.self.now c.relink.new.self c.args.before c.next_shown-next.result c.args.place c.kind_word-kind_word.result c.requires c.relink.ensures fits c.kind_word-kind_word.ensures).1

pub set_kind_word-requires : goal.set_kind_word-requires
set_kind_word-requires c =
    let fits : c.next_shown-next.result < 2 ^ 32 = search rules in
    (after_relink c.args.self.now c.relink.new.self c.args.before c.next_shown-next.result c.args.place _ c.requires c.relink.ensures fits refl).0

pub returns : goal.returns
returns c o v kept left at is before =
    let fits : c.next_shown-next.result < 2 ^ 32 = search rules in
    let small : c.kind_word-kind_word.result < 2 ^ 32 = search rules in
    hidden_at o v c.args.self.now c.relink.new.self c.set_kind_word.new.self c.args.place c.args.before c.next_shown-next.result c.kind_word-kind_word.result kept left
    c.next_shown-next.ensures fits c.relink.ensures c.kind_word-kind_word.ensures small c.set_kind_word.ensures at is before
