use Rattle.std.proofs.Common.{arith, ◌≡◌, ◌≤◌, ◌<◌, ◌∙◌, ap, sym, length, ◌-◌, ◌^◌, get_or, Some}
use Rattle.std.proofs.lemmas.List.{get_or_default}
use Rattle.gc_free.specs.Orders.{count_below}
use Rattle.gc_free.proofs.ByLength.{place_of, In-place}
use Rattle.gc_free.proofs.Shortest.{In-get_or}
use Rattle.gc_free.specs.Runs.{end_of}
use Rattle.gc_free.proofs.InsertBy.{count_within}
use Rattle.gc_free.proofs.Spread.{begins_none, begins_found}
use Rattle.gc_free.proofs.TwoOrdersKept.{sorted_by_place}
use Rattle.gc_free.proofs.free_runs.FreeRuns.take_from.Goals as goal

pub count_before-at-requires : goal.count_before-at-requires
count_before-at-requires g c = rw c.deref.ensures.value (sorted_by_place c.self.inside.by_place.items c.self.inside.by_length.items c.self.invariant)

pub returns-then-at-len-clause-found : goal.returns-then-at-len-clause-found
returns-then-at-len-clause-found g c =
    let runs = c.self.inside.by_place.items in
    let count : c.count_before-at.result ≡ count_below place_of c.args.place runs = rw (c.deref.ensures.value, c.of_place.ensures) at c.count_before-at.ensures.count in
    rw (← c.self.view_is) (sym (begins_none c.args.place 0 (2 ^ 32 - 1) c.count_before-at.result runs (record { place = 0; length = 0 }) c.self.invariant.spread count (λ l is. omega arith)).none)

pub returns-then-at-len-clause-runs : goal.returns-then-at-len-clause-runs
returns-then-at-len-clause-runs g c =
    let runs = c.self.inside.by_place.items in
    let count : c.count_before-at.result ≡ count_below place_of c.args.place runs = rw (c.deref.ensures.value, c.of_place.ensures) at c.count_before-at.ensures.count in
    rw (← c.self.view_is) (sym (begins_none c.args.place 0 (2 ^ 32 - 1) c.count_before-at.result runs (record { place = 0; length = 0 }) c.self.invariant.spread count (λ l is. omega arith)).all)

pub index-requires : goal.index-requires
index-requires g c =
    let runs = c.self.inside.by_place.items in
    let count : c.count_before-at.result ≡ count_below place_of c.args.place runs = rw (c.deref.ensures.value, c.of_place.ensures) at c.count_before-at.ensures.count in
    let le = count_within place_of c.args.place runs in
    omega arith

pub returns-then-index-place-clause-found : goal.returns-then-index-place-clause-found
returns-then-index-place-clause-found g c =
    let runs = c.self.inside.by_place.items in
    let count : c.count_before-at.result ≡ count_below place_of c.args.place runs = rw (c.deref.ensures.value, c.of_place.ensures) at c.count_before-at.ensures.count in
    rw (← c.self.view_is) (sym (begins_none c.args.place 0 (2 ^ 32 - 1) c.count_before-at.result runs c.index.result.now c.self.invariant.spread count
    (λ l is. c.if-index-place.true (ap (λ r. r.place) c.index.ensures ∙ is))).none)

pub returns-then-index-place-clause-runs : goal.returns-then-index-place-clause-runs
returns-then-index-place-clause-runs g c =
    let runs = c.self.inside.by_place.items in
    let count : c.count_before-at.result ≡ count_below place_of c.args.place runs = rw (c.deref.ensures.value, c.of_place.ensures) at c.count_before-at.ensures.count in
    rw (← c.self.view_is) (sym (begins_none c.args.place 0 (2 ^ 32 - 1) c.count_before-at.result runs c.index.result.now c.self.invariant.spread count
    (λ l is. c.if-index-place.true (ap (λ r. r.place) c.index.ensures ∙ is))).all)

pub remove_at-requires-clause-within : goal.remove_at-requires-clause-within
remove_at-requires-clause-within g c =
    let runs = c.self.inside.by_place.items in
    let count : c.count_before-at.result ≡ count_below place_of c.args.place runs = rw (c.deref.ensures.value, c.of_place.ensures) at c.count_before-at.ensures.count in
    let le = count_within place_of c.args.place runs in
    omega arith

pub returns-clause-found : goal.returns-clause-found
returns-clause-found g c =
    let runs = c.self.inside.by_place.items in
    let count : c.count_before-at.result ≡ count_below place_of c.args.place runs = rw (c.deref.ensures.value, c.of_place.ensures) at c.count_before-at.ensures.count in
    let le = count_within place_of c.args.place runs in
    let l : c.count_before-at.result < length runs = omega arith in
    rw (← c.self.view_is) (ap (λ r. Some r) (c.remove_at.ensures.run ∙ get_or_default runs c.count_before-at.result c.remove_at.result c.index.result.now l)
    ∙ sym (begins_found c.args.place 0 (2 ^ 32 - 1) c.count_before-at.result runs c.index.result.now c.self.invariant.spread count l (ap (λ r. r.place) (sym c.index.ensures) ∙ c.if-index-place.false)).found)

pub returns-clause-runs : goal.returns-clause-runs
returns-clause-runs g c =
    let runs = c.self.inside.by_place.items in
    let count : c.count_before-at.result ≡ count_below place_of c.args.place runs = rw (c.deref.ensures.value, c.of_place.ensures) at c.count_before-at.ensures.count in
    let le = count_within place_of c.args.place runs in
    let l : c.count_before-at.result < length runs = omega arith in
    rw (← c.self.view_is, c.remove_at.ensures.items) (begins_found c.args.place 0 (2 ^ 32 - 1) c.count_before-at.result runs c.index.result.now c.self.invariant.spread count l
    (ap (λ r. r.place) (sym c.index.ensures) ∙ c.if-index-place.false)).rest

pub returns-clause-begins : goal.returns-clause-begins
returns-clause-begins g c =
    let runs = c.self.inside.by_place.items in
    let count : c.count_before-at.result ≡ count_below place_of c.args.place runs = rw (c.deref.ensures.value, c.of_place.ensures) at c.count_before-at.ensures.count in
    let le = count_within place_of c.args.place runs in
    let l : c.count_before-at.result < length runs = omega arith in
    let p = In-place 0 (2 ^ 32 - 1) (get_or runs c.count_before-at.result c.remove_at.result) runs c.self.invariant.spread (In-get_or runs c.count_before-at.result c.remove_at.result l) in
    let last : end_of (get_or runs c.count_before-at.result c.remove_at.result) ≤ 2 ^ 32 - 1 = p.1 in
    let same : end_of c.remove_at.result ≡ end_of (get_or runs c.count_before-at.result c.remove_at.result) = ap end_of c.remove_at.ensures.run in
    (ap (λ r. r.place) (c.remove_at.ensures.run ∙ get_or_default runs c.count_before-at.result c.remove_at.result c.index.result.now l ∙ sym c.index.ensures) ∙ c.if-index-place.false, omega arith)
