use mathlib.Core.Option.{some}
use Rattle.std.proofs.Common.{sym, ap, refl, subst, arith}
use Rattle.gc_model.specs.Stores.{StoreView}
use Rattle.gc_objects.specs.ValueRuns.{LeavesRoom}
use Rattle.gc_objects.specs.ValueLends.{left_to}
use Rattle.gc_objects.proofs.Pushing.{held_table}
use Rattle.gc_objects.proofs.ValueStarts.{leaves_all, can_give, run_is, too_many, no_room, may_root}
use Rattle.gc_objects.proofs.each_value.values_of.Goals as goal

pub returns-then-counts-roots_left : goal.returns-then-counts-roots_left
returns-then-counts-roots_left g c = (
  (refl, λ last. tt, record { rest = refl; more = omega (arith) }),
  record {
    rests = tt;
    reads = λ t a holds.
        let held = held_table g.H.GcHeap.KIND c.args.store.now t a holds in
        too_many c.args.store.now t c.args.root c.args.counts.len c.args.counts.references (c.requires t held) c.roots_left.result (c.roots_left.ensures t held) c.if-counts-roots_left.true;
    ready = tt;
    leaves = tt;
    same_reference = tt;
  },
)

pub returns-in-Ok : goal.returns-in-Ok
returns-in-Ok g c =
    let spare = c.reserve_roots.new.self.spare in
    let run = run_is c.args.store.now c.reserve_roots.new.self c.new.result.store.now c.args.root c.new.result.root c.new.result.next c.args.counts.len c.new.result.len spare
    c.new.ensures.unchanged c.in-Ok.ensures.rest c.new.ensures.root c.new.ensures.next c.new.ensures.len in (
      (ap some (sym c.new.ensures.same_reference), λ last. refl, tt),
      record {
        rests = tt;
        reads = λ t a holds.
            let held = held_table g.H.GcHeap.KIND c.args.store.now t a holds in
            leaves_all g.H.GcHeap.KIND c.args.store.now c.args.root c.args.counts.len c.args.counts.references t a holds (c.requires t held) spare (left_to c.new.result) run
            (may_root t c.args.counts.references c.roots_left.result (c.roots_left.ensures t held) c.if-counts-roots_left.false);
        ready =
            let t = c.stores_hold_tables.ensures.0 in
            let a = c.stores_hold_tables.ensures.1.0 in
            let holds = c.stores_hold_tables.ensures.1.1 in
            let held = held_table g.H.GcHeap.KIND c.args.store.now t a holds in
            can_give g.H.GcHeap.KIND c.args.store.now c.args.root c.args.counts.len c.args.counts.references t a holds (c.requires t held) spare (left_to c.new.result) run
            (may_root t c.args.counts.references c.roots_left.result (c.roots_left.ensures t held) c.if-counts-roots_left.false) c.in-Ok.ensures.room;
        leaves =
            subst (λ (v : StoreView g.row.D.Denot). LeavesRoom c.args.store.now v) (sym c.new.ensures.unchanged) (record { rest = c.in-Ok.ensures.rest; more = c.in-Ok.ensures.spare });
        same_reference = c.new.ensures.same_reference;
      },
    )

pub returns-in-Err : goal.returns-in-Err
returns-in-Err g c = (
  (refl, λ last. tt, record { rest = c.in-Err.ensures.rest; more = c.in-Err.ensures.spare }),
  record {
    rests = tt;
    reads = λ t a holds.
        let held = held_table g.H.GcHeap.KIND c.args.store.now t a holds in
        no_room c.args.store.now t c.args.root c.args.counts.len c.args.counts.references (c.requires t held) c.roots_left.result (c.roots_left.ensures t held) c.if-counts-roots_left.false c.in-Err.ensures.full;
    ready = tt;
    leaves = tt;
    same_reference = tt;
  },
)
