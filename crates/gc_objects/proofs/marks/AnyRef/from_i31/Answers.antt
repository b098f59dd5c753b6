use Rattle.gc_types.specs.declared.kind.VMGcKind.TheVariants as kinds
use Rattle.gc_objects.proofs.Pushed.{handle_kind}
use Rattle.gc_objects.proofs.Pushing.{pushes_handle, pushed_number}
use Rattle.gc_objects.proofs.marks.AnyRef.from_i31.Goals as goal

pub from_gc_root_index-requires : goal.from_gc_root_index-requires
from_gc_root_index-requires g c =
    let held = c.stores_hold_tables.ensures in
    pushed_number g.H.GcHeap.KIND c.args.store.now c.push_i31.new.self held.0 held.1.0 held.1.1 _ c.push_i31.result c.in-Ok.root c.in-Ok.is (c.push_i31.ensures.pushes held.0 held.1.0 held.1.1)

pub returns-in-Ok-clause-pushes : goal.returns-in-Ok-clause-pushes
returns-in-Ok-clause-pushes g c t a holds =
    pushes_handle g.H.GcHeap.KIND t a _ c.push_i31.new.self c.push_i31.result c.in-Ok.root c.from_gc_root_index.result c.in-Ok.is c.from_gc_root_index.ensures (c.push_i31.ensures.pushes t a holds)

pub returns-in-Ok-clause-kind : goal.returns-in-Ok-clause-kind
returns-in-Ok-clause-kind g c =
    let held = c.stores_hold_tables.ensures in
    handle_kind g.H.GcHeap.KIND c.push_i31.new.self kinds.AnyRef c.in-Ok.root c.from_gc_root_index.result.index c.from_gc_root_index.ensures
    (pushed_number g.H.GcHeap.KIND c.args.store.now c.push_i31.new.self held.0 held.1.0 held.1.1 _ c.push_i31.result c.in-Ok.root c.in-Ok.is (c.push_i31.ensures.pushes held.0 held.1.0 held.1.1))
