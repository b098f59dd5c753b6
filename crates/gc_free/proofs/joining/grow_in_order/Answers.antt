use Rattle.std.proofs.Common.{arith, ◌≡◌, ◌<◌, refl, sym, subst, length}
use Rattle.gc_free.specs.Orders.{length_key, count_below}
use Rattle.gc_free.proofs.JoinedAt.{shifts_start, shifts_on, shifts_end}
use Rattle.gc_free.proofs.joining.grow_in_order.Goals as goal

pub loop-key-init : goal.loop-key-init
loop-key-init g c =
    let runs = c.args.runs.now.items in
    let count : c.count_before-at.result ≡ count_below length_key (length_key c.args.run) runs = rw (c.deref.ensures.value, c.new.ensures) at c.count_before-at.ensures.count in
    record {
      shifts = shifts_start length_key (length_key c.args.run) (length_key c.args.whole) c.count_before-at.result runs count c.requires.present c.requires.grows;
      capacity = refl;
      in_place = refl;
    }

pub is_next_before-requires : goal.is_next_before-requires
is_next_before-requires g c = rw c.deref-in-loop-key.ensures.value c.loop-key.invariant.shifts.within

pub loop-key-preserved : goal.loop-key-preserved
loop-key-preserved g c =
    let next = rw (c.deref-in-loop-key.ensures.value, c.new-key.ensures) at c.is_next_before.ensures.next c.loop-key-test.true in
    let low : length_key c.index.result.now < length_key c.args.whole = subst (λ z. length_key z < length_key c.args.whole) (sym c.index.ensures) (next.1 c.index.result.now) in
    record {
      shifts = shifts_on length_key (length_key c.args.run) (length_key c.args.whole) c.loop-key.at c.index.result.now c.args.runs.now.items c.loop-key.runs.items
          c.loop-key.invariant.shifts next.0 c.index.ensures low;
      capacity = c.loop-key.invariant.capacity;
      in_place = c.loop-key.invariant.in_place;
    }

pub index_mut-requires-2 : goal.index_mut-requires-2
index_mut-requires-2 g c =
    let within : c.loop-key.at < length c.loop-key.runs.items = c.loop-key.invariant.shifts.within in
    omega arith

pub returns-clause-items : goal.returns-clause-items
returns-clause-items g c =
    let none = rw (c.deref-in-loop-key.ensures.value, c.new-key.ensures) at c.is_next_before.ensures.none c.loop-key-test.false in
    shifts_end length_key (length_key c.args.run) c.loop-key.at c.args.whole c.args.runs.now.items c.loop-key.runs.items c.loop-key.invariant.shifts none

pub returns-clause-capacity : goal.returns-clause-capacity
returns-clause-capacity g c = c.loop-key.invariant.capacity

pub returns-clause-in_place : goal.returns-clause-in_place
returns-clause-in_place g c = c.loop-key.invariant.in_place
