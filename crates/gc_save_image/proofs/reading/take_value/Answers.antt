use Rattle.std.proofs.Common.{◌≡◌, ◌+◌, Some, Err, length, refl, sym, subst, arith}
use Rattle.std.specs.List.{slice_get}
use Rattle.std.proofs.lemmas.Option.{slice_get_read}
use Rattle.gc_paths.specs.Answers.{LacksRoots}
use Rattle.gc_paths.specs.Progress.{present_in_value}
use Rattle.gc_save_image.specs.declared.collect_fault.CollectFault.{CollectFault}
use Rattle.gc_save_image.specs.Progress.{AnswersImagePart, ImageGoesOn, SaysValue}
use Rattle.gc_save_image.specs.Parts.{found_handles}
use Rattle.gc_save_image.proofs.WasRead.{held, reads_one, has_value, was_read, read_refused, raw_live, leads_on, never_full, take_inside}
use Rattle.gc_save_image.proofs.reading.take_value.Given as given
use Rattle.gc_save_image.proofs.reading.take_value.Goals as goal
use Rattle.gc_save_image.proofs.reading.take_value.Goals.{After-index-handle}

pub index-handle-requires : goal.index-handle-requires
index-handle-requires g c =
    let inside = take_inside g.H.GcHeap.KIND c.args.store.now (found_handles c.args.found.now) c.args.number c.requires.can in
    let counts = c.args.found.now.handles.ok.0 in
    omega (arith, inside, counts)

-- the handle is that of the object
handle_there : (g : given.Over) (c : After-index-handle g) → slice_get c.args.found.now.handles.items c.args.number ≡ Some c.index-handle.result.now
handle_there g c =
    let inside = take_inside g.H.GcHeap.KIND c.args.store.now (found_handles c.args.found.now) c.args.number c.requires.can in
    slice_get_read c.args.found.now.handles.items (length c.args.found.now.handles.items) c.args.number c.index-handle.result.now refl inside c.index-handle.ensures

pub read_value-requires : goal.read_value-requires
read_value-requires g c =
    let at = (goal.at.read_value-requires g c).After-index-handle in
    let can = c.requires.can in
    reads_one g.H.GcHeap.KIND can.basis can.told can.count c.args.store.now (found_handles c.args.found.now) can.progress c.args.number can.object can.reading c.index-handle.result.now (handle_there g at) c.args.index c.requires.value c.requires.value_at

pub take_raw-requires : goal.take_raw-requires
take_raw-requires g c =
    let before = (goal.at.take_raw-requires g c).After-index-handle in
    let can = c.requires.can in
    let has = has_value g.H.GcHeap.KIND can.basis can.told can.count c.args.store.now (found_handles c.args.found.now) can.progress c.args.number can.object can.reading c.index-handle.result.now (handle_there g before) c.args.index c.requires.value c.requires.value_at in
    let read = was_read g.H.GcHeap.KIND can.basis can.told can.count c.args.store.now (found_handles c.args.found.now) can.progress c.read_value.new.self c.in-Ok.ensures.same c.requires.value c.in-Ok.value
    (c.in-Ok.ensures.reads can.progress.holds.now can.basis.account c.requires.value (held g.H.GcHeap.KIND can.basis can.told can.count c.args.store.now (found_handles c.args.found.now) can.progress) has)
    (c.in-Ok.ensures.there can.progress.holds.now can.basis.place can.basis.account c.requires.value can.progress.holds.there has) in
    raw_live g.H.GcHeap.KIND can.basis can.told (can.count + present_in_value c.requires.value) c.read_value.new.self (found_handles c.args.found.now) read.progress c.requires.value c.in-Ok.value read.stands

pub returns-in-Ok-clause-takes : goal.returns-in-Ok-clause-takes
returns-in-Ok-clause-takes g c b told count o v progress reading value_at =
    let before = (goal.at.returns-in-Ok-clause-takes g c).After-index-handle in
    let has = has_value g.H.GcHeap.KIND b told count c.args.store.now (found_handles c.args.found.now) progress c.args.number o reading c.index-handle.result.now (handle_there g before) c.args.index v value_at in
    let read = was_read g.H.GcHeap.KIND b told count c.args.store.now (found_handles c.args.found.now) progress c.read_value.new.self c.in-Ok.ensures.same v c.in-Ok.value
    (c.in-Ok.ensures.reads progress.holds.now b.account v (held g.H.GcHeap.KIND b told count c.args.store.now (found_handles c.args.found.now) progress) has)
    (c.in-Ok.ensures.there progress.holds.now b.place b.account v progress.holds.there has) in
    never_full g.H.GcHeap.KIND b c.read_value.new.self (λ x. ImageGoesOn g.H.GcHeap.KIND b told (count + present_in_value v) c.read_value.new.self (found_handles c.take_raw.new.found) (λ then. SaysValue then v x)) (LacksRoots b.table (count + present_in_value v)) c.take_raw.result
    (c.take_raw.ensures b told (count + present_in_value v) v read.progress read.stands (leads_on g.H.GcHeap.KIND b told count c.args.store.now (found_handles c.args.found.now) progress c.args.number o reading c.args.index v value_at))

pub returns-in-Err-clause-takes : goal.returns-in-Err-clause-takes
returns-in-Err-clause-takes g c b told count o v progress reading value_at =
    let before = (goal.at.returns-in-Err-clause-takes g c).After-index-handle in
    let has = has_value g.H.GcHeap.KIND b told count c.args.store.now (found_handles c.args.found.now) progress c.args.number o reading c.index-handle.result.now (handle_there g before) c.args.index v value_at in
    subst (λ (why : CollectFault). AnswersImagePart g.H.GcHeap.KIND b (λ x. ImageGoesOn g.H.GcHeap.KIND b told (count + present_in_value v) c.read_value.new.self (found_handles c.args.found.now) (λ then. SaysValue then v x)) (LacksRoots b.table (count + present_in_value v)) (Err why) c.read_value.new.self) (sym c.refused.ensures)
    (read_refused g.H.GcHeap.KIND b told count c.args.store.now (found_handles c.args.found.now) progress c.read_value.new.self c.in-Err.ensures.same
    v c.in-Err.fault (λ x. ImageGoesOn g.H.GcHeap.KIND b told (count + present_in_value v) c.read_value.new.self (found_handles c.args.found.now) (λ then. SaysValue then v x)) (c.in-Err.ensures.reads progress.holds.now b.account v (held g.H.GcHeap.KIND b told count c.args.store.now (found_handles c.args.found.now) progress) has) c.in-Err.ensures.err)
