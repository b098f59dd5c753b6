use Rattle.gc_free.specs.Orders.{key_of}
use Rattle.gc_free.proofs.InsertBy.{remove_at_count}
use Rattle.gc_free.proofs.free_runs.remove_in_order.Goals as goal

pub returns-clause-items : goal.returns-clause-items
returns-clause-items g c =
    rw (c.remove.ensures.items, c.count_before-at.ensures.count, c.new.ensures, c.deref.ensures.value) (remove_at_count (key_of c.args.order) (key_of c.args.order c.args.run) c.args.runs.now.items)
