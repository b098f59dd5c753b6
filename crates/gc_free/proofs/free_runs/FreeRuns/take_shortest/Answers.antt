use Rattle.std.proofs.Common.{arith, ◌≡◌, ◌<◌, ◌∙◌, ap, sym, subst, length, ◌*◌, ◌-◌, ◌^◌, Some, lit<}
use Rattle.gc_free.specs.Runs.{remove_by}
use Rattle.gc_free.specs.Orders.{count_below, length_key, by_length}
use Rattle.gc_free.proofs.ByLength.{In}
use Rattle.gc_free.proofs.Shortest.{In-get_or, In-unordered, shortest_is_first, fit_at, no_fit, remove_by-at}
use Rattle.gc_free.proofs.InsertBy.{count_within, remove_at_count}
use Rattle.gc_free.proofs.TwoOrdersKept.{sorted_by_place, sorted_by_length, stands_by_place, two_orders-remove, same_length, places_by_length}
use Rattle.gc_free.proofs.Costs.{IsSearched-both, IsSearched-more, HasSearched-wider}
use Rattle.gc_free.proofs.free_runs.FreeRuns.take_shortest.Goals as goal

pub count_before-at-requires : goal.count_before-at-requires
count_before-at-requires g c = rw c.deref.ensures.value (sorted_by_length c.self.inside.by_place.items c.self.inside.by_length.items c.self.invariant)

pub returns-then-at-len-clause-found : goal.returns-then-at-len-clause-found
returns-then-at-len-clause-found g c =
    let runs = c.self.inside.by_place.items in
    let ordered = c.self.inside.by_length.items in
    let count : c.count_before-at.result ≡ count_below length_key (c.args.size * 2 ^ 32) ordered = rw (c.deref.ensures.value, c.of_length-key.ensures) at c.count_before-at.ensures.count in
    let same : ordered ≡ by_length runs = c.self.invariant.same in
    rw (← c.self.view_is, shortest_is_first c.args.size 0 (2 ^ 32 - 1) runs (lit< tt) c.self.invariant.spread, ← same)
    (sym (no_fit c.args.size ordered (places_by_length runs ordered c.self.invariant) (omega arith)))

pub returns-then-at-len-clause-cost : goal.returns-then-at-len-clause-cost
returns-then-at-len-clause-cost g c =
    let runs = c.self.inside.by_place.items in
    let same : length c.self.inside.by_length.items ≡ length runs = same_length runs c.self.inside.by_length.items c.self.invariant in
    let cost = rw c.deref.ensures.value at c.count_before-at.ensures.cost in
    rw (← c.self.view_is) (IsSearched-more 1 2 (length c.self.inside.by_length.items) (length runs) c.args.steps.now c.count_before-at.new.steps (omega arith) (omega arith) cost)

pub remove-run-requires : goal.remove-run-requires
remove-run-requires g c =
    let ordered = c.self.inside.by_length.items in
    let count : c.count_before-at.result ≡ count_below length_key (c.args.size * 2 ^ 32) ordered = rw (c.deref.ensures.value, c.of_length-key.ensures) at c.count_before-at.ensures.count in
    let le = count_within length_key (c.args.size * 2 ^ 32) ordered in
    omega arith

pub remove_in_order-requires-clause-sorted : goal.remove_in_order-requires-clause-sorted
remove_in_order-requires-clause-sorted g c = sorted_by_place c.self.inside.by_place.items c.self.inside.by_length.items c.self.invariant

pub remove_in_order-requires-clause-present : goal.remove_in_order-requires-clause-present
remove_in_order-requires-clause-present g c =
    let ordered = c.self.inside.by_length.items in
    let count : c.count_before-at.result ≡ count_below length_key (c.args.size * 2 ^ 32) ordered = rw (c.deref.ensures.value, c.of_length-key.ensures) at c.count_before-at.ensures.count in
    let le = count_within length_key (c.args.size * 2 ^ 32) ordered in
    stands_by_place c.self.inside.by_place.items ordered c.count_before-at.result c.remove-run.result c.self.invariant (omega arith) c.remove-run.ensures.value

pub invariant_of-self : goal.invariant_of-self
invariant_of-self g c =
    let runs = c.self.inside.by_place.items in
    let ordered = c.self.inside.by_length.items in
    let count : c.count_before-at.result ≡ count_below length_key (c.args.size * 2 ^ 32) ordered = rw (c.deref.ensures.value, c.of_length-key.ensures) at c.count_before-at.ensures.count in
    let le = count_within length_key (c.args.size * 2 ^ 32) ordered in
    let l : c.count_before-at.result < length ordered = omega arith in
    let r = c.remove-run.result in
    let in' : In r ordered = subst (λ z. In z ordered) (sym c.remove-run.ensures.value) (In-get_or ordered c.count_before-at.result r l) in
    let among : In r runs = In-unordered r runs (rw c.self.invariant.same at in') in
    let taken = remove_by-at length_key (c.args.size * 2 ^ 32) c.count_before-at.result ordered r count l in
    let own : remove_by length_key (length_key r) ordered ≡ remove_by length_key (c.args.size * 2 ^ 32) ordered = ap (λ z. remove_by length_key (length_key z) ordered) c.remove-run.ensures.value ∙ taken in
    rw (c.remove_in_order.ensures.items, c.remove-run.ensures.items, count, remove_at_count length_key (c.args.size * 2 ^ 32) ordered, ← own)
    (two_orders-remove runs ordered r c.self.invariant among)

pub returns-clause-found : goal.returns-clause-found
returns-clause-found g c =
    let runs = c.self.inside.by_place.items in
    let ordered = c.self.inside.by_length.items in
    let count : c.count_before-at.result ≡ count_below length_key (c.args.size * 2 ^ 32) ordered = rw (c.deref.ensures.value, c.of_length-key.ensures) at c.count_before-at.ensures.count in
    let le = count_within length_key (c.args.size * 2 ^ 32) ordered in
    let l : count_below length_key (c.args.size * 2 ^ 32) ordered < length ordered = omega arith in
    let same : ordered ≡ by_length runs = c.self.invariant.same in
    let r = c.remove-run.result in
    rw (← c.self.view_is, shortest_is_first c.args.size 0 (2 ^ 32 - 1) runs (lit< tt) c.self.invariant.spread, ← same, fit_at c.args.size ordered r (places_by_length runs ordered c.self.invariant) l, ← count)
    (ap (λ z. Some z) c.remove-run.ensures.value)

pub returns-clause-cost : goal.returns-clause-cost
returns-clause-cost g c =
    let runs = c.self.inside.by_place.items in
    let same : length c.self.inside.by_length.items ≡ length runs = same_length runs c.self.inside.by_length.items c.self.invariant in
    let cost = rw c.deref.ensures.value at c.count_before-at.ensures.cost in
    let first = IsSearched-more 1 1 (length c.self.inside.by_length.items) (length runs) c.args.steps.now c.count_before-at.new.steps (omega arith) (omega arith) cost in
    rw (← c.self.view_is) (IsSearched-both 1 1 (length runs) c.args.steps.now c.count_before-at.new.steps c.remove_in_order.new.steps first c.remove_in_order.ensures.cost)

pub returns-then-at-len-clause-least : goal.returns-then-at-len-clause-least
returns-then-at-len-clause-least g c =
    let runs = c.self.inside.by_place.items in
    let same : length c.self.inside.by_length.items ≡ length runs = same_length runs c.self.inside.by_length.items c.self.invariant in
    let least = rw (c.deref.ensures.value, same) at c.count_before-at.ensures.least in
    rw (← c.self.view_is) least

pub returns-clause-least : goal.returns-clause-least
returns-clause-least g c =
    let runs = c.self.inside.by_place.items in
    let same : length c.self.inside.by_length.items ≡ length runs = same_length runs c.self.inside.by_length.items c.self.invariant in
    let least = rw (c.deref.ensures.value, same) at c.count_before-at.ensures.least in
    rw (← c.self.view_is) (HasSearched-wider (length runs) c.args.steps.now c.count_before-at.new.steps c.args.steps.now c.remove_in_order.new.steps (omega arith)
    c.count_before-at.ensures.cost.rises c.remove_in_order.ensures.cost.rises least)
