use Rattle.std.proofs.Common.{arith, ◌≡◌, ◌<◌, ◌∙◌, ap, sym, length, ◌-◌, ◌^◌, Some}
use Rattle.gc_free.specs.Orders.{count_below}
use Rattle.gc_free.proofs.ByLength.{place_of}
use Rattle.gc_free.proofs.InsertBy.{count_within}
use Rattle.gc_free.proofs.Spread.{begins_none, begins_found}
use Rattle.gc_free.proofs.TwoOrdersKept.{sorted_by_place}
use Rattle.gc_free.proofs.free_runs.FreeRuns.get.Goals as goal

pub count_before-at-requires : goal.count_before-at-requires
count_before-at-requires g c = rw c.deref.ensures.value (sorted_by_place c.self.inside.by_place.items c.self.inside.by_length.items c.self.invariant)

pub returns-then-at-len : goal.returns-then-at-len
returns-then-at-len g c =
    let runs = c.self.inside.by_place.items in
    let count : c.count_before-at.result ≡ count_below place_of c.args.place runs = rw (c.deref.ensures.value, c.of_place.ensures) at c.count_before-at.ensures.count in
    rw (← c.self.view_is) (sym (begins_none c.args.place 0 (2 ^ 32 - 1) c.count_before-at.result runs (record { place = 0; length = 0 }) c.self.invariant.spread count (λ l is. omega arith)).none)

pub index-run-requires : goal.index-run-requires
index-run-requires g c =
    let runs = c.self.inside.by_place.items in
    let count : c.count_before-at.result ≡ count_below place_of c.args.place runs = rw (c.deref.ensures.value, c.of_place.ensures) at c.count_before-at.ensures.count in
    let le = count_within place_of c.args.place runs in
    omega arith

pub returns-then-run-place : goal.returns-then-run-place
returns-then-run-place g c =
    let runs = c.self.inside.by_place.items in
    let count : c.count_before-at.result ≡ count_below place_of c.args.place runs = rw (c.deref.ensures.value, c.of_place.ensures) at c.count_before-at.ensures.count in
    rw (← c.self.view_is) (sym (begins_none c.args.place 0 (2 ^ 32 - 1) c.count_before-at.result runs c.index-run.result.now c.self.invariant.spread count
    (λ l is. c.if-run-place.true (ap (λ r. r.place) c.index-run.ensures ∙ is))).none)

pub returns : goal.returns
returns g c =
    let runs = c.self.inside.by_place.items in
    let count : c.count_before-at.result ≡ count_below place_of c.args.place runs = rw (c.deref.ensures.value, c.of_place.ensures) at c.count_before-at.ensures.count in
    let le = count_within place_of c.args.place runs in
    let l : c.count_before-at.result < length runs = omega arith in
    rw (← c.self.view_is) (ap (λ r. Some r) c.index-run.ensures
    ∙ sym (begins_found c.args.place 0 (2 ^ 32 - 1) c.count_before-at.result runs c.index-run.result.now c.self.invariant.spread count l (ap (λ r. r.place) (sym c.index-run.ensures) ∙ c.if-run-place.false)).found)
