use Rattle.std.proofs.Common.{rules, ◌<◌, ◌+◌, ◌^◌, arith}
use Rattle.gc_drc.proofs.MarkLemmas.{mark_at, mark_links, flags_in}
use Rattle.gc_drc.proofs.space.CountedSpace.mark.Goals as goal

pub returns-clause-marked : goal.returns-clause-marked
returns-clause-marked c o v at i fresh =
    let small : c.kind_word-kind_word.result < 2 ^ 32 = search rules in
    let flags = flags_in o v c.args.self.now c.args.place at i in
    mark_at o v c.args.self.now c.set_kind_word.new.self c.args.place c.kind_word-kind_word.result c.kind_word-kind_word.ensures (omega (arith, c.kind_word-kind_word.ensures)) c.set_kind_word.ensures at i fresh

pub returns-clause-links : goal.returns-clause-links
returns-clause-links c o v head list at i part linked =
    let small : c.kind_word-kind_word.result + 1 < 2 ^ 32 = search rules in
    mark_links o v c.args.self.now c.set_kind_word.new.self c.args.place c.kind_word-kind_word.result c.kind_word-kind_word.ensures small c.set_kind_word.ensures at i head list part linked
