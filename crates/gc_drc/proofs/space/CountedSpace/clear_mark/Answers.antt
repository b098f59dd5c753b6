use Rattle.std.proofs.Common.{rules, ◌<◌, ◌^◌, refl}
use Rattle.gc_drc.proofs.MarkLemmas.{unmark_at, can_unmark}
use Rattle.gc_drc.proofs.space.CountedSpace.clear_mark.Goals as goal

pub kind_word-kind_word-requires : goal.kind_word-kind_word-requires
kind_word-kind_word-requires c = (can_unmark c.args.self.now c.args.place _ c.requires refl).0

pub overflow_sub-kind_word : goal.overflow_sub-kind_word
overflow_sub-kind_word c = (can_unmark c.args.self.now c.args.place c.kind_word-kind_word.result c.requires c.kind_word-kind_word.ensures).1

pub set_kind_word-requires : goal.set_kind_word-requires
set_kind_word-requires c = (can_unmark c.args.self.now c.args.place c.kind_word-kind_word.result c.requires c.kind_word-kind_word.ensures).0

pub returns : goal.returns
returns c o v at h =
    let small : c.kind_word-kind_word.result < 2 ^ 32 = search rules in
    unmark_at o v c.args.self.now c.set_kind_word.new.self c.args.place c.kind_word-kind_word.result c.kind_word-kind_word.ensures small c.set_kind_word.ensures at h
