use Rattle.std.proofs.Common.{arith, ◌≡◌, length}
use Rattle.gc_free.proofs.TwoOrdersKept.{sorted_by_place, sorted_by_length, same_length, two_orders-insert, place_fits}
use Rattle.gc_free.proofs.Costs.{IsSearched-both, IsSearched-more}
use Rattle.gc_free.proofs.free_runs.FreeRuns.insert.Goals as goal

pub insert_in_order-requires-clause-sorted : goal.insert_in_order-requires-clause-sorted
insert_in_order-requires-clause-sorted g c = sorted_by_place c.self.inside.by_place.items c.self.inside.by_length.items c.self.invariant

pub insert_in_order-requires-2-clause-sorted : goal.insert_in_order-requires-2-clause-sorted
insert_in_order-requires-2-clause-sorted g c = sorted_by_length c.self.inside.by_place.items c.self.inside.by_length.items c.self.invariant

pub insert_in_order-requires-2-clause-room : goal.insert_in_order-requires-2-clause-room
insert_in_order-requires-2-clause-room g c =
    let same : length c.self.inside.by_length.items ≡ length c.self.inside.by_place.items = same_length c.self.inside.by_place.items c.self.inside.by_length.items c.self.invariant in
    let room = rw (← c.self.view_is) at c.requires.room in
    omega arith

pub invariant_of-self : goal.invariant_of-self
invariant_of-self g c =
    let spread = rw (← c.self.view_is) at c.requires.spread in
    rw (c.insert_in_order.ensures.items, c.insert_in_order-2.ensures.items)
    (two_orders-insert c.self.inside.by_place.items c.self.inside.by_length.items c.args.run c.self.invariant spread (place_fits c.args.run c.self.inside.by_place.items spread))

pub returns-clause-cost : goal.returns-clause-cost
returns-clause-cost g c =
    let same : length c.self.inside.by_length.items ≡ length c.self.inside.by_place.items = same_length c.self.inside.by_place.items c.self.inside.by_length.items c.self.invariant in
    let n = length c.self.inside.by_place.items in
    let second = IsSearched-more 1 1 (length c.self.inside.by_length.items) n c.insert_in_order.new.steps c.insert_in_order-2.new.steps (omega arith) (omega arith) c.insert_in_order-2.ensures.cost in
    rw (← c.self.view_is) (IsSearched-both 1 1 n c.args.steps.now c.insert_in_order.new.steps c.insert_in_order-2.new.steps c.insert_in_order.ensures.cost second)
