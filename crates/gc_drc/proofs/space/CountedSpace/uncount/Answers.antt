use Rattle.std.proofs.Common.{rules, ◌<◌, ◌-◌, ◌^◌}
use Rattle.gc_drc.proofs.MarkLemmas.{uncount_at, uncount_kinds, more_names}
use Rattle.gc_drc.proofs.space.CountedSpace.uncount.Goals as goal

pub returns-clause-counted : goal.returns-clause-counted
returns-clause-counted c o v at i named more =
    let small : c.count-count.result < 2 ^ 64 = search rules in
    uncount_at o v c.args.self.now c.set_count.new.self c.args.place c.count-count.result c.count-count.ensures small c.set_count.ensures at i named
    (more_names o v c.args.self.now c.args.place c.count-count.result at i c.count-count.ensures more)

pub returns-clause-kinds : goal.returns-clause-kinds
returns-clause-kinds c o v at i p j = uncount_kinds o v c.args.self.now c.set_count.new.self c.args.place (c.count-count.result - 1) c.set_count.ensures at i p j
