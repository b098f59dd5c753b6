use Rattle.gc_image.proofs.ElementLemmas.{item_found}
use Rattle.gc_load_image.proofs.ValueLemmas.{found_null, found_object, found_small, late_object, stopped_small}
use Rattle.gc_load_image.proofs.values.handle_of.Goals as goal

pub returns-in-Null-clause-finds : goal.returns-in-Null-clause-finds
returns-in-Null-clause-finds g c t a standing fits = found_null g.H.GcHeap.KIND c.args.handles.now c.args.store.now c.args.store.now t a standing c.args.reference c.in-Null.is

pub returns-in-Ok-clause-finds : goal.returns-in-Ok-clause-finds
returns-in-Ok-clause-finds g c t a standing fits =
    found_small g.H.GcHeap.KIND c.args.handles.now c.args.store.now c.push_i31.new.self t a standing c.args.reference c.in-Small.number c.wrapping_u32.result c.in-Ok.handle c.in-Small.is c.wrapping_u32.ensures fits
    c.push_i31.ensures.same (c.in-Ok.ensures.pushes t a standing.holds)

pub returns-in-Err-clause-finds : goal.returns-in-Err-clause-finds
returns-in-Err-clause-finds g c t a standing fits =
    stopped_small g.H.GcHeap.KIND c.args.handles.now c.args.store.now c.push_i31.new.self t a standing c.args.reference c.in-Small.number c.wrapping_u32.result c.in-Err.fault c.told_of_root.result c.in-Small.is c.told_of_root.ensures
    c.in-Err.ensures.err (c.in-Err.ensures.pushes t a standing.holds)

pub returns-in-Some-clause-finds : goal.returns-in-Some-clause-finds
returns-in-Some-clause-finds g c t a standing fits =
    found_object g.H.GcHeap.KIND c.args.handles.now c.args.store.now c.args.store.now t a standing c.args.reference c.in-Object.number c.in-Some.handle.now c.in-Object.is
    (item_found c.args.handles.now c.in-Object.number c.in-Some.handle.now c.in-Some.ensures.lookup.3.0 c.in-Some.ensures.lookup.1)

pub returns-in-None-clause-finds : goal.returns-in-None-clause-finds
returns-in-None-clause-finds g c t a standing fits =
    late_object g.H.GcHeap.KIND c.args.handles.now c.args.store.now c.args.store.now t a standing c.args.reference c.in-Object.number c.in-Object.is c.in-None.ensures.lookup.3
