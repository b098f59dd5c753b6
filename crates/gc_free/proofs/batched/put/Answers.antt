use Rattle.std.proofs.Common.{arith, ◌<◌, length}
use Rattle.gc_free.proofs.WaitingRuns.{puts, makes}
use Rattle.gc_free.proofs.batched.put.Goals as goal

pub returns-then-len-lt-MOST_WAITING-clause-put : goal.returns-then-len-lt-MOST_WAITING-clause-put
returns-then-len-lt-MOST_WAITING-clause-put c =
    rw c.add_at.ensures.items (puts c.args.block c.args.waiting.now.items c.args.at c.args.list.now.space c.requires.can_wait)

pub give_run-requires : goal.give_run-requires
give_run-requires c =
    let xs = c.args.waiting.now.items in
    let some : 0 < length xs = omega arith in
    let m = makes c.args.block c.remove-first.result xs 0 c.args.list.now.space c.requires.can_wait some c.remove-first.ensures.value in
    m.held

pub returns-clause-put : goal.returns-clause-put
returns-clause-put c =
    let xs = c.args.waiting.now.items in
    let some : 0 < length xs = omega arith in
    let m = makes c.args.block c.remove-first.result xs c.saturating_sub.result c.args.list.now.space c.requires.can_wait some c.remove-first.ensures.value in
    rw (c.add_at-2.ensures.items, c.remove-first.ensures.items, c.give_run.ensures.given) m.put
