use Rattle.std.proofs.Common.{arith, ◌≡◌, ◌≤◌, ◌<◌, ◌∙◌, ap, sym, length, ◌-◌, ◌^◌, get_or, Some, suc}
use Rattle.std.proofs.lemmas.List.{get_or_default}
use Rattle.gc_free.specs.Runs.{end_of}
use Rattle.gc_free.specs.Orders.{count_below}
use Rattle.gc_free.proofs.ByLength.{place_of, In-place}
use Rattle.gc_free.proofs.Shortest.{In-get_or}
use Rattle.gc_free.proofs.InsertBy.{count_within}
use Rattle.gc_free.proofs.Spread.{ends_none, ends_none_first, ends_found}
use Rattle.gc_free.proofs.TwoOrdersKept.{sorted_by_place}
use Rattle.gc_free.proofs.free_runs.FreeRuns.take_up_to.Goals as goal

pub count_before-at-requires : goal.count_before-at-requires
count_before-at-requires g c = rw c.deref.ensures.value (sorted_by_place c.self.inside.by_place.items c.self.inside.by_length.items c.self.invariant)

pub returns-then-at-eq0-clause-found : goal.returns-then-at-eq0-clause-found
returns-then-at-eq0-clause-found g c =
    let runs = c.self.inside.by_place.items in
    let count : c.count_before-at.result ≡ count_below place_of c.args.place runs = rw (c.deref.ensures.value, c.of_place.ensures) at c.count_before-at.ensures.count in
    let zero_is : 0 ≡ count_below place_of c.args.place runs = omega arith in
    rw (← c.self.view_is) (sym (ends_none_first c.args.place 0 (2 ^ 32 - 1) runs c.self.invariant.spread zero_is).none)

pub returns-then-at-eq0-clause-runs : goal.returns-then-at-eq0-clause-runs
returns-then-at-eq0-clause-runs g c =
    let runs = c.self.inside.by_place.items in
    let count : c.count_before-at.result ≡ count_below place_of c.args.place runs = rw (c.deref.ensures.value, c.of_place.ensures) at c.count_before-at.ensures.count in
    let zero_is : 0 ≡ count_below place_of c.args.place runs = omega arith in
    rw (← c.self.view_is) (sym (ends_none_first c.args.place 0 (2 ^ 32 - 1) runs c.self.invariant.spread zero_is).all)

pub index-requires : goal.index-requires
index-requires g c =
    let runs = c.self.inside.by_place.items in
    let count : c.count_before-at.result ≡ count_below place_of c.args.place runs = rw (c.deref.ensures.value, c.of_place.ensures) at c.count_before-at.ensures.count in
    let le = count_within place_of c.args.place runs in
    omega arith

pub end-requires : goal.end-requires
end-requires g c =
    let runs = c.self.inside.by_place.items in
    let count : c.count_before-at.result ≡ count_below place_of c.args.place runs = rw (c.deref.ensures.value, c.of_place.ensures) at c.count_before-at.ensures.count in
    let le = count_within place_of c.args.place runs in
    let l : c.count_before-at.result - 1 < length runs = omega arith in
    let p = In-place 0 (2 ^ 32 - 1) (get_or runs (c.count_before-at.result - 1) c.index.result.now) runs c.self.invariant.spread (In-get_or runs (c.count_before-at.result - 1) c.index.result.now l) in
    let last : end_of (get_or runs (c.count_before-at.result - 1) c.index.result.now) ≤ 2 ^ 32 - 1 = p.1 in
    let same : end_of c.index.result.now ≡ end_of (get_or runs (c.count_before-at.result - 1) c.index.result.now) = ap end_of c.index.ensures in
    omega arith

pub returns-then-end-place-clause-found : goal.returns-then-end-place-clause-found
returns-then-end-place-clause-found g c =
    let runs = c.self.inside.by_place.items in
    let count : c.count_before-at.result ≡ count_below place_of c.args.place runs = rw (c.deref.ensures.value, c.of_place.ensures) at c.count_before-at.ensures.count in
    let past : suc (c.count_before-at.result - 1) ≡ count_below place_of c.args.place runs = omega arith in
    rw (← c.self.view_is) (sym (ends_none c.args.place 0 (2 ^ 32 - 1) (c.count_before-at.result - 1) runs c.index.result.now c.self.invariant.spread past
    (λ is. c.if-end-place.true (c.end.ensures ∙ ap end_of c.index.ensures ∙ is))).none)

pub returns-then-end-place-clause-runs : goal.returns-then-end-place-clause-runs
returns-then-end-place-clause-runs g c =
    let runs = c.self.inside.by_place.items in
    let count : c.count_before-at.result ≡ count_below place_of c.args.place runs = rw (c.deref.ensures.value, c.of_place.ensures) at c.count_before-at.ensures.count in
    let past : suc (c.count_before-at.result - 1) ≡ count_below place_of c.args.place runs = omega arith in
    rw (← c.self.view_is) (sym (ends_none c.args.place 0 (2 ^ 32 - 1) (c.count_before-at.result - 1) runs c.index.result.now c.self.invariant.spread past
    (λ is. c.if-end-place.true (c.end.ensures ∙ ap end_of c.index.ensures ∙ is))).all)

pub remove_at-requires-clause-within : goal.remove_at-requires-clause-within
remove_at-requires-clause-within g c =
    let runs = c.self.inside.by_place.items in
    let count : c.count_before-at.result ≡ count_below place_of c.args.place runs = rw (c.deref.ensures.value, c.of_place.ensures) at c.count_before-at.ensures.count in
    let le = count_within place_of c.args.place runs in
    omega arith

pub returns-clause-found : goal.returns-clause-found
returns-clause-found g c =
    let runs = c.self.inside.by_place.items in
    let count : c.count_before-at.result ≡ count_below place_of c.args.place runs = rw (c.deref.ensures.value, c.of_place.ensures) at c.count_before-at.ensures.count in
    let past : suc (c.count_before-at.result - 1) ≡ count_below place_of c.args.place runs = omega arith in
    let le = count_within place_of c.args.place runs in
    let l : c.count_before-at.result - 1 < length runs = omega arith in
    rw (← c.self.view_is) (ap (λ r. Some r) (c.remove_at.ensures.run ∙ get_or_default runs (c.count_before-at.result - 1) c.remove_at.result c.index.result.now l)
    ∙ sym (ends_found c.args.place 0 (2 ^ 32 - 1) (c.count_before-at.result - 1) runs c.index.result.now c.self.invariant.spread past
    (sym (ap end_of c.index.ensures) ∙ sym c.end.ensures ∙ c.if-end-place.false)).found)

pub returns-clause-runs : goal.returns-clause-runs
returns-clause-runs g c =
    let runs = c.self.inside.by_place.items in
    let count : c.count_before-at.result ≡ count_below place_of c.args.place runs = rw (c.deref.ensures.value, c.of_place.ensures) at c.count_before-at.ensures.count in
    let past : suc (c.count_before-at.result - 1) ≡ count_below place_of c.args.place runs = omega arith in
    rw (← c.self.view_is, c.remove_at.ensures.items) (ends_found c.args.place 0 (2 ^ 32 - 1) (c.count_before-at.result - 1) runs c.index.result.now c.self.invariant.spread past
    (sym (ap end_of c.index.ensures) ∙ sym c.end.ensures ∙ c.if-end-place.false)).rest

pub returns-clause-ends : goal.returns-clause-ends
returns-clause-ends g c =
    let runs = c.self.inside.by_place.items in
    let count : c.count_before-at.result ≡ count_below place_of c.args.place runs = rw (c.deref.ensures.value, c.of_place.ensures) at c.count_before-at.ensures.count in
    let le = count_within place_of c.args.place runs in
    let l : c.count_before-at.result - 1 < length runs = omega arith in
    ap end_of (c.remove_at.ensures.run ∙ get_or_default runs (c.count_before-at.result - 1) c.remove_at.result c.index.result.now l)
    ∙ ap end_of (sym c.index.ensures) ∙ sym c.end.ensures ∙ c.if-end-place.false
