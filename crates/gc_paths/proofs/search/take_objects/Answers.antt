use Rattle.std.proofs.Common.{◌+◌, length, Result, sym, subst, arith}
use Rattle.gc_model.specs.Reach.{object_values}
use Rattle.gc_paths.specs.declared.fault.PathFault.{PathFault}
use Rattle.gc_paths.specs.Parts.{parts}
use Rattle.gc_paths.specs.Progress.{AnswersPart, Ended, SearchGoesOn, PassesRoom, TellsValues, values_count}
use Rattle.gc_paths.proofs.Growing.{same_itself, same_twice, err_is}
use Rattle.gc_paths.proofs.ObjectsLoop.{object_told, told_count, entry_told, round_begin, round_progress, round_reading, round_step, round_refused, round_end, round_over}
use Rattle.gc_paths.proofs.search.take_objects.Goals as goal

pub loop-entry-init : goal.loop-entry-init
loop-entry-init g c = record {
  goes = λ b told count progress. round_begin g.H.GcHeap.KIND b told count c.args.store.now (parts c.args.report.now) progress;
  same = same_itself c.args.store.now;
}

pub overflow_cast-entry : goal.overflow_cast-entry
overflow_cast-entry g c = let below = c.loop-entry-test.true in record { fits = omega (arith, below) }

pub returns-then-entry-len-clause-takes : goal.returns-then-entry-len-clause-takes
returns-then-entry-len-clause-takes g c b told count progress =
    let round = c.loop-entry.invariant.goes b told count progress in
    let as_many = told_count g.H.GcHeap.KIND b round.told round.bound round.total c.loop-entry.store (parts c.loop-entry.report) round.progress in
    let counts = c.loop-entry.report.entries.ok.0 in
    round_end g.H.GcHeap.KIND b told count c.loop-entry.entry c.loop-entry.store (parts c.loop-entry.report) round (omega (arith, as_many, counts, c.len.ensures, c.if-entry-len.true))

pub returns-then-entry-len-clause-same : goal.returns-then-entry-len-clause-same
returns-then-entry-len-clause-same g c = c.loop-entry.invariant.same

pub take_values-requires : goal.take_values-requires
take_values-requires g c =
    let begun = c.requires in
    let round = c.loop-entry.invariant.goes begun.basis begun.told begun.count begun.progress in
    let as_many = told_count g.H.GcHeap.KIND begun.basis round.told round.bound round.total c.loop-entry.store (parts c.loop-entry.report) round.progress in
    let counts = c.loop-entry.report.entries.ok.0 in
    let x = entry_told round.told c.loop-entry.entry (omega (arith, as_many, counts, c.len.ensures, c.if-entry-len.false)) in
    let o = object_told g.H.GcHeap.KIND begun.basis round.told round.bound round.total c.loop-entry.store (parts c.loop-entry.report) round.progress c.loop-entry.entry x.0 x.1 in
    record {
      basis = begun.basis;
      told = round.told;
      bound = x.0.entry.length + 1;
      count = round.total;
      progress = round_progress g.H.GcHeap.KIND begun.basis begun.told begun.count c.loop-entry.entry c.loop-entry.store (parts c.loop-entry.report) round x.0 x.1 o.0 o.1;
      object = o.0;
      reading = round_reading g.H.GcHeap.KIND begun.basis begun.told begun.count c.loop-entry.entry c.loop-entry.store (parts c.loop-entry.report) round x.0 x.1 o.0 o.1;
    }

pub returns-in_err-take_values-clause-takes : goal.returns-in_err-take_values-clause-takes
returns-in_err-take_values-clause-takes g c b told count progress =
    let round = c.loop-entry.invariant.goes b told count progress in
    let as_many = told_count g.H.GcHeap.KIND b round.told round.bound round.total c.loop-entry.store (parts c.loop-entry.report) round.progress in
    let counts = c.loop-entry.report.entries.ok.0 in
    let x = entry_told round.told c.loop-entry.entry (omega (arith, as_many, counts, c.len.ensures, c.if-entry-len.false)) in
    let o = object_told g.H.GcHeap.KIND b round.told round.bound round.total c.loop-entry.store (parts c.loop-entry.report) round.progress c.loop-entry.entry x.0 x.1 in
    subst (λ (r : Result (Unit {0}) PathFault). AnswersPart g.H.GcHeap.KIND b (Ended g.H.GcHeap.KIND b told count c.take_values.new.store (parts c.take_values.new.report)) (PassesRoom b count) r c.take_values.new.store)
    (sym (err_is c.from_residual.result c.in_err-take_values.field-0.0 c.from_residual.ensures.1))
    (round_refused g.H.GcHeap.KIND b told count c.loop-entry.entry c.loop-entry.store (parts c.loop-entry.report) round x.0 x.1 o.0 o.1 c.in_err-take_values.field-0.0
    (SearchGoesOn g.H.GcHeap.KIND b round.told (x.0.entry.length + 1) (round.total + values_count (object_values o.0)) c.take_values.new.store (parts c.take_values.new.report) (TellsValues (x.0.entry.length + 1) (length (object_values o.0)) (object_values o.0)))
    (Ended g.H.GcHeap.KIND b told count c.take_values.new.store (parts c.take_values.new.report))
    c.take_values.new.store
    (c.in_err-take_values.ensures.takes b round.told (x.0.entry.length + 1) round.total o.0
    (round_progress g.H.GcHeap.KIND b told count c.loop-entry.entry c.loop-entry.store (parts c.loop-entry.report) round x.0 x.1 o.0 o.1)
    (round_reading g.H.GcHeap.KIND b told count c.loop-entry.entry c.loop-entry.store (parts c.loop-entry.report) round x.0 x.1 o.0 o.1)))

pub returns-in_err-take_values-clause-same : goal.returns-in_err-take_values-clause-same
returns-in_err-take_values-clause-same g c = same_twice c.args.store.now c.loop-entry.store c.take_values.new.store c.loop-entry.invariant.same c.take_values.ensures.same

pub loop-entry-preserved : goal.loop-entry-preserved
loop-entry-preserved g c = record {
  goes = λ b told count progress.
      let round = c.loop-entry.invariant.goes b told count progress in
      let as_many = told_count g.H.GcHeap.KIND b round.told round.bound round.total c.loop-entry.store (parts c.loop-entry.report) round.progress in
      let counts = c.loop-entry.report.entries.ok.0 in
      let x = entry_told round.told c.loop-entry.entry (omega (arith, as_many, counts, c.len.ensures, c.if-entry-len.false)) in
      let o = object_told g.H.GcHeap.KIND b round.told round.bound round.total c.loop-entry.store (parts c.loop-entry.report) round.progress c.loop-entry.entry x.0 x.1 in
      round_step g.H.GcHeap.KIND b told count c.loop-entry.entry c.loop-entry.store (parts c.loop-entry.report) round x.0 x.1 o.0 o.1 c.take_values.new.store (parts c.take_values.new.report)
      (c.in_ok-take_values.ensures.takes b round.told (x.0.entry.length + 1) round.total o.0
      (round_progress g.H.GcHeap.KIND b told count c.loop-entry.entry c.loop-entry.store (parts c.loop-entry.report) round x.0 x.1 o.0 o.1)
      (round_reading g.H.GcHeap.KIND b told count c.loop-entry.entry c.loop-entry.store (parts c.loop-entry.report) round x.0 x.1 o.0 o.1));
  same = same_twice c.args.store.now c.loop-entry.store c.take_values.new.store c.loop-entry.invariant.same c.take_values.ensures.same;
}

pub returns-clause-takes : goal.returns-clause-takes
returns-clause-takes g c b told count progress =
    absurd (round_over g.H.GcHeap.KIND b told count c.loop-entry.entry c.loop-entry.store (parts c.loop-entry.report) (c.loop-entry.invariant.goes b told count progress) (let past = c.loop-entry-test.false in omega (arith, past)))

pub returns-clause-same : goal.returns-clause-same
returns-clause-same g c = c.loop-entry.invariant.same
