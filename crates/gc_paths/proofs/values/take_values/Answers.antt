use Rattle.std.proofs.Common.{◌≡◌, ◌+◌, ℕ, List, length, take, Some, Result, refl, sym, ap, ◌∙◌, subst, arith}
use Rattle.std.specs.List.{slice_get}
use Rattle.std.proofs.lemmas.List.{length-map}
use Rattle.std.proofs.lemmas.Option.{slice_get_read}
use Rattle.gc_model.specs.Reach.{object_values}
use Rattle.gc_model.specs.Values.{Object}
use Rattle.gc_model.proofs.ObjectStands.{value_below}
use Rattle.gc_paths.specs.declared.entry.PathEntry.{PathEntry}
use Rattle.gc_paths.specs.declared.fault.PathFault.{PathFault}
use Rattle.gc_paths.specs.Answers.{LacksRoots}
use Rattle.gc_paths.specs.Parts.{parts}
use Rattle.gc_paths.specs.Progress.{AnswersPart, Basis, SearchGoesOn, Progress, TellsValue, TellsValues, present_in_value, values_count}
use Rattle.gc_paths.specs.Reports.{Told}
use Rattle.gc_paths.specs.Steps.{IsReading}
use Rattle.gc_paths.proofs.Growing.{same_itself, same_twice, err_is}
use Rattle.gc_paths.proofs.Reading.{names_one, object_here, take_inside, take_live}
use Rattle.gc_paths.proofs.ValuesLoop.{few_told, entry_there, reading_kept, values_begin, values_more, values_end, values_refused}
use Rattle.gc_paths.proofs.values.take_values.Given as given
use Rattle.gc_paths.proofs.values.take_values.Goals as goal
use Rattle.gc_paths.proofs.values.take_values.Goals.{After-index, After-count_named_values-index-end}

pub index-handle-requires : goal.index-handle-requires
index-handle-requires g c =
    let inside = take_inside g.H.GcHeap.KIND c.args.store.now (parts c.args.report.now) c.args.entry c.requires in
    let counts = c.args.report.now.handles.ok.0 in
    omega (arith, inside, counts)

pub index-requires : goal.index-requires
index-requires g c =
    let inside = take_inside g.H.GcHeap.KIND c.args.store.now (parts c.args.report.now) c.args.entry c.requires in
    let same = c.requires.progress.lists.same_count in
    let entries_are = ap length c.requires.progress.lists.entries_are in
    let mapped = length-map c.requires.told (λ (x : Told). x.entry) in
    let counts = c.args.report.now.entries.ok.0 in
    omega (arith, inside, counts, same, entries_are, mapped)

handle_at : (g : given.Over) (c : After-index g) → slice_get c.args.report.now.handles.items c.args.entry ≡ Some c.index-handle.result.now
handle_at g c =
    let inside = take_inside g.H.GcHeap.KIND c.args.store.now (parts c.args.report.now) c.args.entry c.requires in
    slice_get_read c.args.report.now.handles.items (length c.args.report.now.handles.items) c.args.entry c.index-handle.result.now refl inside c.index-handle.ensures

-- the length of the walks that go on from the entry
next_length : (g : given.Over) (c : After-index g) (b : Basis g.row.D.Denot) (told : List Told) (bound count : ℕ) (o : Object g.row.D.Denot) → Progress g.H.GcHeap.KIND b told bound count c.args.store.now (parts c.args.report.now) → IsReading b told bound c.args.entry o
    → c.index.result.now.length + 1 ≡ bound
next_length g c b told bound count o progress reading =
    sym (reading.next ∙ ap (λ (e : PathEntry). e.length + 1) (entry_there g.H.GcHeap.KIND b told bound count c.args.store.now (parts c.args.report.now) progress c.args.entry reading.one reading.there c.index.result.now c.index.ensures))

pub overflow_add-length : goal.overflow_add-length
overflow_add-length g c =
    let at = (goal.at.overflow_add-length g c).After-index in
    let can = c.requires in
    let next = next_length g at can.basis can.told can.bound can.count can.object can.progress can.reading in
    let is = can.reading.next in
    let short = can.progress.tells.short c.args.entry can.reading.one can.reading.there in
    let inside = take_inside g.H.GcHeap.KIND c.args.store.now (parts c.args.report.now) c.args.entry can in
    let same = can.progress.lists.same_count in
    let few = few_told g.H.GcHeap.KIND can.basis can.told can.bound can.count c.args.store.now (parts c.args.report.now) can.progress in
    record { fits = omega (arith, next, is, short, inside, same, few) }

pub count_named_values-index-end-requires : goal.count_named_values-index-end-requires
count_named_values-index-end-requires g c =
    let at = (goal.at.count_named_values-index-end-requires g c).After-index in
    take_live g.H.GcHeap.KIND c.args.store.now (parts c.args.report.now) c.args.entry c.requires c.index-handle.result.now (handle_at g at)

-- the object has as many values as were counted
count_is : (g : given.Over) (c : After-count_named_values-index-end g) (b : Basis g.row.D.Denot) (told : List Told) (bound count : ℕ) (o : Object g.row.D.Denot) → Progress g.H.GcHeap.KIND b told bound count c.args.store.now (parts c.args.report.now) → IsReading b told bound c.args.entry o
    → c.count_named_values-index-end.result ≡ length (object_values o)
count_is g c b told bound count o progress reading =
    let at = (goal.at.After-count_named_values-index-end g c).After-index in
    c.count_named_values-index-end.ensures progress.holds.now reading.one.position o (b.place, progress.holds.there.0)
    (names_one g.H.GcHeap.KIND b told bound count c.args.store.now (parts c.args.report.now) progress c.args.entry o reading c.index-handle.result.now (handle_at g at))
    (object_here g.H.GcHeap.KIND b told bound count c.args.store.now (parts c.args.report.now) progress c.args.entry o reading c.index-handle.result.now (handle_at g at))

pub loop-index-init : goal.loop-index-init
loop-index-init g c = record {
  goes = λ b told bound count o progress reading. values_begin g.H.GcHeap.KIND b told bound count (object_values o) c.args.store.now (parts c.args.report.now) progress;
  same = same_itself c.args.store.now;
}

pub take_value-requires : goal.take_value-requires
take_value-requires g c =
    let at = (goal.at.take_value-requires g c).After-count_named_values-index-end in
    let can = c.requires in
    let goes = c.loop-index.invariant.goes can.basis can.told can.bound can.count can.object can.progress can.reading in
    let counted = count_is g at can.basis can.told can.bound can.count can.object can.progress can.reading in
    let v = value_below (object_values can.object) c.loop-index.index (omega (arith, counted, c.loop-index-test.true)) in
    record {
      can = record {
        basis = can.basis;
        told = goes.told;
        bound = can.bound;
        count = can.count + values_count (take c.loop-index.index (object_values can.object));
        progress = goes.progress;
        object = can.object;
        reading = reading_kept can.basis can.told goes.told can.bound c.args.entry can.object goes.kept can.reading;
      };
      value = v.0;
      value_at = v.1;
    }

pub returns-in_err-take_value-clause-takes : goal.returns-in_err-take_value-clause-takes
returns-in_err-take_value-clause-takes g c b told bound count o progress reading =
    let at = (goal.at.returns-in_err-take_value-clause-takes g c).After-count_named_values-index-end in
    let before = (goal.at.After-count_named_values-index-end g at).After-index in
    let goes = c.loop-index.invariant.goes b told bound count o progress reading in
    let counted = count_is g at b told bound count o progress reading in
    let v = value_below (object_values o) c.loop-index.index (omega (arith, counted, c.loop-index-test.true)) in
    let now : ℕ = count + values_count (take c.loop-index.index (object_values o)) in
    subst (λ (r : Result (Unit {0}) PathFault). AnswersPart g.H.GcHeap.KIND b (SearchGoesOn g.H.GcHeap.KIND b told bound (count + values_count (object_values o)) c.take_value.new.store (parts c.take_value.new.report) (TellsValues bound (length (object_values o)) (object_values o))) (LacksRoots b.table (count + values_count (object_values o))) r c.take_value.new.store)
    (sym (err_is c.from_residual.result c.in_err-take_value.field-0.0 c.from_residual.ensures.1))
    (values_refused g.H.GcHeap.KIND b told bound count (object_values o) c.loop-index.index v.0 v.1 c.in_err-take_value.field-0.0
    (SearchGoesOn g.H.GcHeap.KIND b goes.told bound (now + present_in_value v.0) c.take_value.new.store (parts c.take_value.new.report) (TellsValue bound v.0))
    (SearchGoesOn g.H.GcHeap.KIND b told bound (count + values_count (object_values o)) c.take_value.new.store (parts c.take_value.new.report) (TellsValues bound (length (object_values o)) (object_values o)))
    c.take_value.new.store
    (c.in_err-take_value.ensures.takes b goes.told bound now o v.0 goes.progress (reading_kept b told goes.told bound c.args.entry o goes.kept reading) (next_length g before b told bound count o progress reading) v.1))

pub returns-in_err-take_value-clause-same : goal.returns-in_err-take_value-clause-same
returns-in_err-take_value-clause-same g c = same_twice c.args.store.now c.loop-index.store c.take_value.new.store c.loop-index.invariant.same c.take_value.ensures.same

pub loop-index-preserved : goal.loop-index-preserved
loop-index-preserved g c =
    let at = (goal.at.loop-index-preserved g c).After-count_named_values-index-end in
    let before = (goal.at.After-count_named_values-index-end g at).After-index in
    record {
      goes = λ b told bound count o progress reading.
          let goes = c.loop-index.invariant.goes b told bound count o progress reading in
          let counted = count_is g at b told bound count o progress reading in
          let v = value_below (object_values o) c.loop-index.index (omega (arith, counted, c.loop-index-test.true)) in
          values_more g.H.GcHeap.KIND b told bound count (object_values o) c.loop-index.index v.0 v.1 c.loop-index.store (parts c.loop-index.report) goes c.take_value.new.store (parts c.take_value.new.report)
          (c.in_ok-take_value.ensures.takes b goes.told bound (count + values_count (take c.loop-index.index (object_values o))) o v.0 goes.progress (reading_kept b told goes.told bound c.args.entry o goes.kept reading) (next_length g before b told bound count o progress reading) v.1);
      same = same_twice c.args.store.now c.loop-index.store c.take_value.new.store c.loop-index.invariant.same c.take_value.ensures.same;
    }

pub returns-clause-takes : goal.returns-clause-takes
returns-clause-takes g c b told bound count o progress reading =
    let at = (goal.at.returns-clause-takes g c).After-count_named_values-index-end in
    let counted = count_is g at b told bound count o progress reading in
    let past = c.loop-index-test.false in
    let below = c.loop-index.auto.index-end in
    values_end g.H.GcHeap.KIND b told bound count (object_values o) c.loop-index.index (omega (arith, counted, past, below)) c.loop-index.store (parts c.loop-index.report)
    (c.loop-index.invariant.goes b told bound count o progress reading)

pub returns-clause-same : goal.returns-clause-same
returns-clause-same g c = c.loop-index.invariant.same
