use Rattle.gc_load_image.proofs.ValueLemmas.{found_reference, reference_fits, stopped_reference}
use Rattle.gc_load_image.proofs.values.raw_value.Goals as goal

pub returns-in-Ok-clause-finds : goal.returns-in-Ok-clause-finds
returns-in-Ok-clause-finds g c t a standing fits =
    found_reference g.H.GcHeap.KIND c.args.handles.now c.args.store.now c.handle_of.new.store t a c.args.value.now c.in-Ref.class c.in-Ref.reference c.in-Ref.is c.in-Ok.handle
    (c.in-Ok.ensures.finds t a standing (reference_fits g.H.GcHeap.KIND c.args.handles.now c.args.store.now c.handle_of.new.store t a c.args.value.now c.in-Ref.class c.in-Ref.reference c.in-Ref.is fits))

pub returns-in-Err-clause-finds : goal.returns-in-Err-clause-finds
returns-in-Err-clause-finds g c t a standing fits =
    stopped_reference g.H.GcHeap.KIND c.args.handles.now c.args.store.now c.handle_of.new.store t a c.args.value.now c.in-Ref.class c.in-Ref.reference c.in-Ref.is c.in-Err.fault
    (c.in-Err.ensures.finds t a standing (reference_fits g.H.GcHeap.KIND c.args.handles.now c.args.store.now c.handle_of.new.store t a c.args.value.now c.in-Ref.class c.in-Ref.reference c.in-Ref.is fits))
