use Rattle.std.proofs.Common.{arith, ◌<◌, length, sym, subst, ◌-◌, ◌^◌}
use Rattle.gc_free.proofs.ByLength.{In}
use Rattle.gc_free.proofs.Shortest.{In-get_or}
use Rattle.gc_free.proofs.TwoOrdersKept.{sorted_by_length, stands_by_length, two_orders-remove, remove_is_by_place}
use Rattle.gc_free.proofs.free_runs.remove_at.Goals as goal

pub remove_in_order-requires-clause-sorted : goal.remove_in_order-requires-clause-sorted
remove_in_order-requires-clause-sorted g c = sorted_by_length c.args.by_place.now.items c.args.by_length.now.items c.requires.orders

pub remove_in_order-requires-clause-present : goal.remove_in_order-requires-clause-present
remove_in_order-requires-clause-present g c =
    stands_by_length c.args.by_place.now.items c.args.by_length.now.items c.args.at c.remove-run.result c.requires.orders (omega arith) c.remove-run.ensures.value

pub returns-clause-orders : goal.returns-clause-orders
returns-clause-orders g c =
    let runs = c.args.by_place.now.items in
    let within : c.args.at < length runs = omega arith in
    let in' : In c.remove-run.result runs = subst (λ z. In z runs) (sym c.remove-run.ensures.value) (In-get_or runs c.args.at c.remove-run.result within) in
    rw (c.remove-run.ensures.items, c.remove_in_order.ensures.items, remove_is_by_place 0 (2 ^ 32 - 1) c.args.at runs c.remove-run.result c.requires.orders.spread within c.remove-run.ensures.value)
    (two_orders-remove runs c.args.by_length.now.items c.remove-run.result c.requires.orders in')
