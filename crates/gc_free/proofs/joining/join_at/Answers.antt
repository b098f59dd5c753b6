use Rattle.std.proofs.Common.{arith, ◌≡◌, ◌≤◌, ◌<◌, ◌+◌, ◌-◌, ◌^◌, ◌∙◌, ap, sym, refl, subst, length}
use Rattle.std.specs.List.{insert}
use Rattle.gc_free.specs.Runs.{IsSpread, insert_run}
use Rattle.gc_free.specs.Merged.{merged}
use Rattle.gc_free.proofs.ByLength.{place_of, length-insert_by}
use Rattle.gc_free.proofs.InsertBy.{count_within, insert_at_count}
use Rattle.gc_free.proofs.TwoOrdersKept.{sorted_by_length, same_length, two_orders-insert, place_fits}
use Rattle.gc_free.proofs.JoinedAt.{Found, joins_none, joins_before, joins_behind, joins_both}
use Rattle.gc_free.proofs.joining.join_at.Goals as goal

pub run_before-before-requires-clause-within : goal.run_before-before-requires-clause-within
run_before-before-requires-clause-within g c =
    let freed = c.args.freed in
    let runs = c.args.by_place.now.items in
    let f : Found freed runs c.args.at = record { up = c.requires.orders.spread; new = c.requires.spread; is = c.requires.below } in
    let le : c.args.at ≤ length runs = subst (λ k. k ≤ length runs) (sym c.requires.below) (count_within place_of freed.place runs) in
    rw c.deref.ensures.value le

pub run_behind-behind-requires : goal.run_behind-behind-requires
run_behind-behind-requires g c =
    let freed = c.args.freed in
    let runs = c.args.by_place.now.items in
    let f : Found freed runs c.args.at = record { up = c.requires.orders.spread; new = c.requires.spread; is = c.requires.below } in
    let le : c.args.at ≤ length runs = subst (λ k. k ≤ length runs) (sym c.requires.below) (count_within place_of freed.place runs) in
    rw c.deref-2.ensures.value le

pub joined-whole-requires : goal.joined-whole-requires
joined-whole-requires g c =
    let freed = c.args.freed in
    let runs = c.args.by_place.now.items in
    let f : Found freed runs c.args.at = record { up = c.requires.orders.spread; new = c.requires.spread; is = c.requires.below } in
    let b = rw c.deref.ensures.value at c.in-Some.ensures.found in
    let h = rw (c.deref-2.ensures.value, c.end.ensures) at c.in-Some-behind.ensures.found in
    let j = joins_both freed c.in-Some.before c.in-Some-behind.behind runs c.args.at f b.0 b.1 b.2 h.0 h.1 h.2 in
    rw c.joined.ensures j.fits

pub grow_at-requires-clause-rank : goal.grow_at-requires-clause-rank
grow_at-requires-clause-rank g c =
    let freed = c.args.freed in
    let runs = c.args.by_place.now.items in
    let f : Found freed runs c.args.at = record { up = c.requires.orders.spread; new = c.requires.spread; is = c.requires.below } in
    let b = rw c.deref.ensures.value at c.in-Some.ensures.found in
    let h = rw (c.deref-2.ensures.value, c.end.ensures) at c.in-Some-behind.ensures.found in
    let j = joins_both freed c.in-Some.before c.in-Some-behind.behind runs c.args.at f b.0 b.1 b.2 h.0 h.1 h.2 in
    rw (c.joined-whole.ensures, c.joined.ensures, c.remove_at.ensures.items) j.rank

pub grow_at-requires-clause-spread : goal.grow_at-requires-clause-spread
grow_at-requires-clause-spread g c =
    let freed = c.args.freed in
    let runs = c.args.by_place.now.items in
    let f : Found freed runs c.args.at = record { up = c.requires.orders.spread; new = c.requires.spread; is = c.requires.below } in
    let b = rw c.deref.ensures.value at c.in-Some.ensures.found in
    let h = rw (c.deref-2.ensures.value, c.end.ensures) at c.in-Some-behind.ensures.found in
    let j = joins_both freed c.in-Some.before c.in-Some-behind.behind runs c.args.at f b.0 b.1 b.2 h.0 h.1 h.2 in
    rw (c.joined-whole.ensures, c.joined.ensures, c.remove_at.ensures.items) j.spread

pub grow_at-requires-in-None-behind-clause-within : goal.grow_at-requires-in-None-behind-clause-within
grow_at-requires-in-None-behind-clause-within g c =
    let freed = c.args.freed in
    let runs = c.args.by_place.now.items in
    let f : Found freed runs c.args.at = record { up = c.requires.orders.spread; new = c.requires.spread; is = c.requires.below } in
    let le : c.args.at ≤ length runs = subst (λ k. k ≤ length runs) (sym c.requires.below) (count_within place_of freed.place runs) in
    let b = rw c.deref.ensures.value at c.in-Some.ensures.found in
    let nh = rw (c.deref-2.ensures.value, c.end.ensures) at c.in-None-behind.ensures.none refl in
    let j = joins_before freed c.in-Some.before runs c.args.at f c.requires.fits b.0 le b.1 b.2 nh in
    let within : c.args.at - 1 < length runs = j.within in
    omega arith

pub grow_at-requires-in-None-behind-clause-rank : goal.grow_at-requires-in-None-behind-clause-rank
grow_at-requires-in-None-behind-clause-rank g c =
    let freed = c.args.freed in
    let runs = c.args.by_place.now.items in
    let f : Found freed runs c.args.at = record { up = c.requires.orders.spread; new = c.requires.spread; is = c.requires.below } in
    let le : c.args.at ≤ length runs = subst (λ k. k ≤ length runs) (sym c.requires.below) (count_within place_of freed.place runs) in
    let b = rw c.deref.ensures.value at c.in-Some.ensures.found in
    let nh = rw (c.deref-2.ensures.value, c.end.ensures) at c.in-None-behind.ensures.none refl in
    let j = joins_before freed c.in-Some.before runs c.args.at f c.requires.fits b.0 le b.1 b.2 nh in
    rw c.joined-in-None-behind.ensures j.rank

pub grow_at-requires-in-None-behind-clause-spread : goal.grow_at-requires-in-None-behind-clause-spread
grow_at-requires-in-None-behind-clause-spread g c =
    let freed = c.args.freed in
    let runs = c.args.by_place.now.items in
    let f : Found freed runs c.args.at = record { up = c.requires.orders.spread; new = c.requires.spread; is = c.requires.below } in
    let le : c.args.at ≤ length runs = subst (λ k. k ≤ length runs) (sym c.requires.below) (count_within place_of freed.place runs) in
    let b = rw c.deref.ensures.value at c.in-Some.ensures.found in
    let nh = rw (c.deref-2.ensures.value, c.end.ensures) at c.in-None-behind.ensures.none refl in
    let j = joins_before freed c.in-Some.before runs c.args.at f c.requires.fits b.0 le b.1 b.2 nh in
    rw c.joined-in-None-behind.ensures j.spread

pub joined-requires-in-Some-behind-2 : goal.joined-requires-in-Some-behind-2
joined-requires-in-Some-behind-2 g c =
    let freed = c.args.freed in
    let runs = c.args.by_place.now.items in
    let f : Found freed runs c.args.at = record { up = c.requires.orders.spread; new = c.requires.spread; is = c.requires.below } in
    let nb = rw c.deref.ensures.value at c.in-None.ensures.none refl in
    let h = rw (c.deref-2.ensures.value, c.end.ensures) at c.in-Some-behind-2.ensures.found in
    let j = joins_behind freed c.in-Some-behind-2.behind runs c.args.at f nb h.0 h.1 h.2 in
    j.fits

pub grow_at-requires-in-Some-behind-2-clause-spread : goal.grow_at-requires-in-Some-behind-2-clause-spread
grow_at-requires-in-Some-behind-2-clause-spread g c =
    let freed = c.args.freed in
    let runs = c.args.by_place.now.items in
    let f : Found freed runs c.args.at = record { up = c.requires.orders.spread; new = c.requires.spread; is = c.requires.below } in
    let nb = rw c.deref.ensures.value at c.in-None.ensures.none refl in
    let h = rw (c.deref-2.ensures.value, c.end.ensures) at c.in-Some-behind-2.ensures.found in
    let j = joins_behind freed c.in-Some-behind-2.behind runs c.args.at f nb h.0 h.1 h.2 in
    rw c.joined-in-Some-behind-2.ensures j.spread

pub put_at-requires-clause-within : goal.put_at-requires-clause-within
put_at-requires-clause-within g c =
    let freed = c.args.freed in
    let runs = c.args.by_place.now.items in
    let f : Found freed runs c.args.at = record { up = c.requires.orders.spread; new = c.requires.spread; is = c.requires.below } in
    let le : c.args.at ≤ length runs = subst (λ k. k ≤ length runs) (sym c.requires.below) (count_within place_of freed.place runs) in
    omega arith

pub put_at-requires-clause-room : goal.put_at-requires-clause-room
put_at-requires-clause-room g c =
    let freed = c.args.freed in
    let runs = c.args.by_place.now.items in
    let f : Found freed runs c.args.at = record { up = c.requires.orders.spread; new = c.requires.spread; is = c.requires.below } in
    let nb = rw c.deref.ensures.value at c.in-None.ensures.none refl in
    let nh = rw (c.deref-2.ensures.value, c.end.ensures) at c.in-None-behind-2.ensures.none refl in
    let j = joins_none freed runs c.args.at f nb nh in
    let more : length (merged freed runs) ≡ length runs + 1 = ap length (sym j) ∙ length-insert_by place_of freed runs in
    let room = c.requires.place_room in
    omega arith

pub insert_in_order-requires-clause-sorted : goal.insert_in_order-requires-clause-sorted
insert_in_order-requires-clause-sorted g c =
    sorted_by_length c.args.by_place.now.items c.args.by_length.now.items c.requires.orders

pub insert_in_order-requires-clause-room : goal.insert_in_order-requires-clause-room
insert_in_order-requires-clause-room g c =
    let freed = c.args.freed in
    let runs = c.args.by_place.now.items in
    let f : Found freed runs c.args.at = record { up = c.requires.orders.spread; new = c.requires.spread; is = c.requires.below } in
    let nb = rw c.deref.ensures.value at c.in-None.ensures.none refl in
    let nh = rw (c.deref-2.ensures.value, c.end.ensures) at c.in-None-behind-2.ensures.none refl in
    let j = joins_none freed runs c.args.at f nb nh in
    let more : length (merged freed runs) ≡ length runs + 1 = ap length (sym j) ∙ length-insert_by place_of freed runs in
    let room = c.requires.length_room in
    let same : length c.args.by_length.now.items ≡ length runs = same_length runs c.args.by_length.now.items c.requires.orders in
    omega arith

pub returns-in-Some-behind-clause-items : goal.returns-in-Some-behind-clause-items
returns-in-Some-behind-clause-items g c =
    let freed = c.args.freed in
    let runs = c.args.by_place.now.items in
    let f : Found freed runs c.args.at = record { up = c.requires.orders.spread; new = c.requires.spread; is = c.requires.below } in
    let b = rw c.deref.ensures.value at c.in-Some.ensures.found in
    let h = rw (c.deref-2.ensures.value, c.end.ensures) at c.in-Some-behind.ensures.found in
    let j = joins_both freed c.in-Some.before c.in-Some-behind.behind runs c.args.at f b.0 b.1 b.2 h.0 h.1 h.2 in
    rw (c.grow_at.ensures.items, c.joined-whole.ensures, c.joined.ensures, c.remove_at.ensures.items) j.is

pub returns-in-None-behind-clause-items : goal.returns-in-None-behind-clause-items
returns-in-None-behind-clause-items g c =
    let freed = c.args.freed in
    let runs = c.args.by_place.now.items in
    let f : Found freed runs c.args.at = record { up = c.requires.orders.spread; new = c.requires.spread; is = c.requires.below } in
    let le : c.args.at ≤ length runs = subst (λ k. k ≤ length runs) (sym c.requires.below) (count_within place_of freed.place runs) in
    let b = rw c.deref.ensures.value at c.in-Some.ensures.found in
    let nh = rw (c.deref-2.ensures.value, c.end.ensures) at c.in-None-behind.ensures.none refl in
    let j = joins_before freed c.in-Some.before runs c.args.at f c.requires.fits b.0 le b.1 b.2 nh in
    rw (c.grow_at-in-None-behind.ensures.items, c.joined-in-None-behind.ensures) j.is

pub returns-in-Some-behind-2-clause-items : goal.returns-in-Some-behind-2-clause-items
returns-in-Some-behind-2-clause-items g c =
    let freed = c.args.freed in
    let runs = c.args.by_place.now.items in
    let f : Found freed runs c.args.at = record { up = c.requires.orders.spread; new = c.requires.spread; is = c.requires.below } in
    let nb = rw c.deref.ensures.value at c.in-None.ensures.none refl in
    let h = rw (c.deref-2.ensures.value, c.end.ensures) at c.in-Some-behind-2.ensures.found in
    let j = joins_behind freed c.in-Some-behind-2.behind runs c.args.at f nb h.0 h.1 h.2 in
    rw (c.grow_at-in-Some-behind-2.ensures.items, c.joined-in-Some-behind-2.ensures) j.is

pub returns-in-None-behind-2-clause-orders : goal.returns-in-None-behind-2-clause-orders
returns-in-None-behind-2-clause-orders g c =
    let freed = c.args.freed in
    let runs = c.args.by_place.now.items in
    let f : Found freed runs c.args.at = record { up = c.requires.orders.spread; new = c.requires.spread; is = c.requires.below } in
    let nb = rw c.deref.ensures.value at c.in-None.ensures.none refl in
    let nh = rw (c.deref-2.ensures.value, c.end.ensures) at c.in-None-behind-2.ensures.none refl in
    let j = joins_none freed runs c.args.at f nb nh in
    let placed : c.put_at.new.runs.items ≡ insert_run freed runs = c.put_at.ensures.items ∙ ap (λ k. insert runs k freed) c.requires.below ∙ insert_at_count place_of freed runs in
    let spread : IsSpread 0 (2 ^ 32 - 1) (insert_run freed runs) = subst (λ l. IsSpread 0 (2 ^ 32 - 1) l) (sym j) c.requires.spread in
    rw (placed, c.insert_in_order.ensures.items) (two_orders-insert runs c.args.by_length.now.items freed c.requires.orders spread (place_fits freed runs spread))

pub returns-in-None-behind-2-clause-items : goal.returns-in-None-behind-2-clause-items
returns-in-None-behind-2-clause-items g c =
    let freed = c.args.freed in
    let runs = c.args.by_place.now.items in
    let f : Found freed runs c.args.at = record { up = c.requires.orders.spread; new = c.requires.spread; is = c.requires.below } in
    let nb = rw c.deref.ensures.value at c.in-None.ensures.none refl in
    let nh = rw (c.deref-2.ensures.value, c.end.ensures) at c.in-None-behind-2.ensures.none refl in
    let j = joins_none freed runs c.args.at f nb nh in
    let placed : c.put_at.new.runs.items ≡ insert_run freed runs = c.put_at.ensures.items ∙ ap (λ k. insert runs k freed) c.requires.below ∙ insert_at_count place_of freed runs in
    placed ∙ j
