use Rattle.std.proofs.Common.{arith}
use Rattle.gc_free.specs.Orders.{key_of}
use Rattle.gc_free.proofs.InsertBy.{insert_at_count, count_within}
use Rattle.gc_free.proofs.free_runs.insert_in_order.Goals as goal

pub put_at-requires-clause-within : goal.put_at-requires-clause-within
put_at-requires-clause-within g c =
    rw (c.count_before-at.ensures.count, c.deref.ensures.value) (let le = count_within (key_of c.args.order) c.new.result c.args.runs.now.items in omega arith)

pub returns-clause-items : goal.returns-clause-items
returns-clause-items g c =
    rw (c.put_at.ensures.items, c.count_before-at.ensures.count, c.new.ensures, c.deref.ensures.value) (insert_at_count (key_of c.args.order) c.args.run c.args.runs.now.items)
