use Rattle.std.proofs.Common.{rules, ◌≡◌, ◌<◌, ◌^◌}
use Rattle.gc_drc.proofs.MarkLemmas.{lower_at_more, lower_at_writes}
use Rattle.gc_drc.proofs.space.CountedSpace.take_name.Goals as goal

pub returns-then-count-eq1 : goal.returns-then-count-eq1
returns-then-count-eq1 c o v at i named =
    let small : c.kind_word-kind_word.result < 2 ^ 32 = search rules in
    let fits : c.args.self.now.queued < 2 ^ 32 = search rules in
    let one : c.count-count.result ≡ 1 = search rules in
    lower_at_writes o v c.args.self.now c.set_kind_word.new.self c.set_link.new.self c.args.place c.count-count.result c.kind_word-kind_word.result c.count-count.ensures one
    c.kind_word-kind_word.ensures small fits c.set_kind_word.ensures c.set_link.ensures at i named

pub returns-else-count-eq1 : goal.returns-else-count-eq1
returns-else-count-eq1 c o v at i named =
    let small : c.count-count.result < 2 ^ 64 = search rules in
    lower_at_more o v c.args.self.now c.set_count.new.self c.args.place c.count-count.result c.count-count.ensures small c.if-count-eq1.false c.set_count.ensures at i named
