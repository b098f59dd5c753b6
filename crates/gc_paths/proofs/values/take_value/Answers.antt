use Rattle.std.proofs.Common.{◌≡◌, ◌+◌, ℕ, Some, Err, length, refl, sym, ◌∙◌, subst, arith}
use Rattle.std.specs.List.{slice_get}
use Rattle.std.proofs.lemmas.Option.{slice_get_read}
use Rattle.gc_model.specs.Holds.{Holds, Placing}
use Rattle.gc_model.specs.Table.{Table}
use Rattle.gc_model.specs.Values.{Reference}
use Rattle.gc_store.specs.Roots.{NamesReference}
use Rattle.gc_paths.specs.declared.entry.PathParent.TheVariants as parent
use Rattle.gc_paths.specs.declared.fault.PathFault.{PathFault}
use Rattle.gc_paths.specs.Answers.{LacksRoots}
use Rattle.gc_paths.specs.Progress.{AnswersPart, SearchGoesOn, TellsValue, present_in_value}
use Rattle.gc_paths.specs.Taking.{TakesReference}
use Rattle.gc_paths.proofs.Reading.{held, reads_one, has_value, read_taken, read_passed, read_refused, read_live, take_inside}
use Rattle.gc_paths.specs.Parts.{parts}
use Rattle.gc_paths.proofs.values.take_value.Given as given
use Rattle.gc_paths.proofs.values.take_value.Goals as goal
use Rattle.gc_paths.proofs.values.take_value.Goals.{After-index-handle}

pub index-handle-requires : goal.index-handle-requires
index-handle-requires g c =
    let inside = take_inside g.H.GcHeap.KIND c.args.store.now (parts c.args.report.now) c.args.entry c.requires.can in
    let counts = c.args.report.now.handles.ok.0 in
    omega (arith, inside, counts)

-- the handle is that of the entry
handle_there : (g : given.Over) (c : After-index-handle g) → slice_get c.args.report.now.handles.items c.args.entry ≡ Some c.index-handle.result.now
handle_there g c =
    let inside = take_inside g.H.GcHeap.KIND c.args.store.now (parts c.args.report.now) c.args.entry c.requires.can in
    slice_get_read c.args.report.now.handles.items (length c.args.report.now.handles.items) c.args.entry c.index-handle.result.now refl inside c.index-handle.ensures

pub read_value-requires : goal.read_value-requires
read_value-requires g c =
    let at = (goal.at.read_value-requires g c).After-index-handle in
    let can = c.requires.can in
    reads_one g.H.GcHeap.KIND can.basis can.told can.bound can.count c.args.store.now (parts c.args.report.now) can.progress c.args.entry can.object can.reading c.index-handle.result.now (handle_there g at) c.args.index c.requires.value c.requires.value_at

pub take-requires : goal.take-requires
take-requires g c =
    let before = (goal.at.take-requires g c).After-index-handle in
    let can = c.requires.can in
    let has = has_value g.H.GcHeap.KIND can.basis can.told can.bound can.count c.args.store.now (parts c.args.report.now) can.progress c.args.entry can.object can.reading c.index-handle.result.now (handle_there g before) c.args.index c.requires.value c.requires.value_at in
    read_live g.H.GcHeap.KIND can.basis can.told can.bound can.count c.args.store.now (parts c.args.report.now) can.progress c.args.entry can.object can.reading c.index-handle.result.now (handle_there g before) c.args.index c.read_value.new.self c.in-Ok.ensures.same
    c.requires.value c.requires.value_at c.in-Ok.value (c.in-Ok.ensures.reads can.progress.holds.now can.basis.account c.requires.value (held g.H.GcHeap.KIND can.basis can.told can.bound can.count c.args.store.now (parts c.args.report.now) can.progress) has)
    (c.in-Ok.ensures.there can.progress.holds.now can.basis.place can.basis.account c.requires.value can.progress.holds.there has) c.in-Some.found (sym c.handle.ensures ∙ c.in-Some.is)

pub returns-in-Some-clause-takes : goal.returns-in-Some-clause-takes
returns-in-Some-clause-takes g c b told bound count o v progress reading length_is value_at =
    let before = (goal.at.returns-in-Some-clause-takes g c).After-index-handle in
    let has = has_value g.H.GcHeap.KIND b told bound count c.args.store.now (parts c.args.report.now) progress c.args.entry o reading c.index-handle.result.now (handle_there g before) c.args.index v value_at in
    read_taken g.H.GcHeap.KIND b told bound count c.args.store.now (parts c.args.report.now) progress c.args.entry o reading c.index-handle.result.now (handle_there g before) c.args.index c.read_value.new.self c.in-Ok.ensures.same
    v value_at c.in-Ok.value (c.in-Ok.ensures.reads progress.holds.now b.account v (held g.H.GcHeap.KIND b told bound count c.args.store.now (parts c.args.report.now) progress) has)
    (c.in-Ok.ensures.there progress.holds.now b.place b.account v progress.holds.there has) c.in-Some.found (sym c.handle.ensures ∙ c.in-Some.is)
    (parts c.take.new.report) c.take.result
    (subst (λ (n : ℕ). (t : Table g.row.D.Denot) (place : Placing) (q : Reference) → Holds g.H.GcHeap.KIND c.read_value.new.self t place → NamesReference c.read_value.new.self t c.in-Some.found q
    → TakesReference place q c.in-Some.found (parent.FromEntry c.args.entry c.args.index) n (parts c.args.report.now) (parts c.take.new.report) c.take.result) length_is c.take.ensures)

pub returns-in-None-clause-takes : goal.returns-in-None-clause-takes
returns-in-None-clause-takes g c b told bound count o v progress reading length_is value_at =
    let before = (goal.at.returns-in-None-clause-takes g c).After-index-handle in
    let has = has_value g.H.GcHeap.KIND b told bound count c.args.store.now (parts c.args.report.now) progress c.args.entry o reading c.index-handle.result.now (handle_there g before) c.args.index v value_at in
    read_passed g.H.GcHeap.KIND b told bound count c.args.store.now (parts c.args.report.now) progress c.args.entry o reading c.index-handle.result.now (handle_there g before) c.args.index c.read_value.new.self c.in-Ok.ensures.same
    v value_at c.in-Ok.value (c.in-Ok.ensures.reads progress.holds.now b.account v (held g.H.GcHeap.KIND b told bound count c.args.store.now (parts c.args.report.now) progress) has)
    (c.in-Ok.ensures.there progress.holds.now b.place b.account v progress.holds.there has) (sym c.handle.ensures ∙ c.in-None.is)

pub returns-in-Err-clause-takes : goal.returns-in-Err-clause-takes
returns-in-Err-clause-takes g c b told bound count o v progress reading length_is value_at =
    let before = (goal.at.returns-in-Err-clause-takes g c).After-index-handle in
    let has = has_value g.H.GcHeap.KIND b told bound count c.args.store.now (parts c.args.report.now) progress c.args.entry o reading c.index-handle.result.now (handle_there g before) c.args.index v value_at in
    subst (λ (why : PathFault). AnswersPart g.H.GcHeap.KIND b (SearchGoesOn g.H.GcHeap.KIND b told bound (count + present_in_value v) c.read_value.new.self (parts c.args.report.now) (TellsValue bound v)) (LacksRoots b.table (count + present_in_value v)) (Err why) c.read_value.new.self) (sym c.refused.ensures)
    (read_refused g.H.GcHeap.KIND b told bound count c.args.store.now (parts c.args.report.now) progress c.args.entry o reading c.index-handle.result.now (handle_there g before) c.args.index c.read_value.new.self c.in-Err.ensures.same
    v c.in-Err.fault (SearchGoesOn g.H.GcHeap.KIND b told bound (count + present_in_value v) c.read_value.new.self (parts c.args.report.now) (TellsValue bound v)) (c.in-Err.ensures.reads progress.holds.now b.account v (held g.H.GcHeap.KIND b told bound count c.args.store.now (parts c.args.report.now) progress) has) c.in-Err.ensures.err)
