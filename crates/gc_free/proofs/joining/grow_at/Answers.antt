use Rattle.std.proofs.Common.{arith, ◌≡◌, ◌<◌, ◌-◌, ◌^◌, ◌∙◌, ap, sym, subst, length, set}
use Rattle.gc_free.specs.Runs.{IsSpread, insert_by, insert_run, remove_by}
use Rattle.gc_free.specs.Orders.{length_key}
use Rattle.gc_free.specs.TwoOrders.{AreTwoOrders}
use Rattle.gc_free.proofs.ByLength.{In, place_of}
use Rattle.gc_free.proofs.Shortest.{In-get_or}
use Rattle.gc_free.proofs.TwoOrdersKept.{sorted_by_length, stands_by_length, two_orders-remove, two_orders-insert, remove_is_by_place, place_fits}
use Rattle.gc_free.proofs.JoinedAt.{set_by_count}
use Rattle.gc_free.proofs.joining.grow_at.Goals as goal

pub grow_in_order-requires-clause-sorted : goal.grow_in_order-requires-clause-sorted
grow_in_order-requires-clause-sorted g c = sorted_by_length c.args.by_place.now.items c.args.by_length.now.items c.requires.orders

pub grow_in_order-requires-clause-present : goal.grow_in_order-requires-clause-present
grow_in_order-requires-clause-present g c =
    let within : c.args.at < length c.args.by_place.now.items = omega arith in
    stands_by_length c.args.by_place.now.items c.args.by_length.now.items c.args.at c.index-run.result.now c.requires.orders within c.index-run.ensures

pub returns-clause-orders : goal.returns-clause-orders
returns-clause-orders g c =
    let runs = c.args.by_place.now.items in
    let ordered = c.args.by_length.now.items in
    let run = c.index-run.result.now in
    let whole = c.args.whole in
    let within : c.args.at < length runs = omega arith in
    let among : In run runs = subst (λ z. In z runs) (sym c.index-run.ensures) (In-get_or runs c.args.at run within) in
    let others = remove_by place_of run.place runs in
    let left = two_orders-remove runs ordered run c.requires.orders among in
    let same : insert_run whole others ≡ set runs c.args.at whole =
    ap (insert_run whole) (sym (remove_is_by_place 0 (2 ^ 32 - 1) c.args.at runs run c.requires.orders.spread within c.index-run.ensures))
    ∙ set_by_count whole 0 (2 ^ 32 - 1) c.args.at runs c.requires.orders.spread c.requires.rank within in
    let spread : IsSpread 0 (2 ^ 32 - 1) (insert_run whole others) = subst (λ l. IsSpread 0 (2 ^ 32 - 1) l) (sym same) c.requires.spread in
    let both = two_orders-insert others (remove_by length_key (length_key run) ordered) whole left spread (place_fits whole others spread) in
    rw c.grow_in_order.ensures.items (subst (λ l. AreTwoOrders l (insert_by length_key whole (remove_by length_key (length_key run) ordered))) same both)
