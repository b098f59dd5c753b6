use Rattle.std.specs.Option.{option_copied}
use Rattle.std.proofs.Common.{◌≡◌, Some, sym, ap, ◌∙◌}
use Rattle.gc_types.specs.Layouts.{layout_at}
use Rattle.gc_heap.proofs.TakenLayouts.{IsTakenLayout, taken_layout}
use Rattle.test_heaps.proofs.stores.make_struct.Goals as goal
use Rattle.test_heaps.proofs.stores.make_struct.Goals.{In-Some}

taken : (g : _) (c : In-Some g) → IsTakenLayout g.H.GcHeap.KIND c.in-Some.layout.now
taken g c =
    let declared : layout_at g.H.GcHeap.KIND c.args.types.now.declarations c.args.ty ≡ Some c.in-Some.layout.now =
    ap (λ l. layout_at l c.args.types.now.declarations c.args.ty) (sym c.KIND.ensures) ∙ sym c.struct_layout.ensures.value ∙ ap option_copied c.in-Some.is in
    taken_layout g.H.GcHeap.KIND c.args.types.now.declarations c.args.ty c.in-Some.layout.now declared

pub alloc_uninit_struct-requires-clause-size : goal.alloc_uninit_struct-requires-clause-size
alloc_uninit_struct-requires-clause-size g c = (taken g (goal.at.alloc_uninit_struct-requires-clause-size g c).In-Some).least

pub alloc_uninit_struct-requires-clause-traces : goal.alloc_uninit_struct-requires-clause-traces
alloc_uninit_struct-requires-clause-traces g c = (taken g (goal.at.alloc_uninit_struct-requires-clause-traces g c).In-Some).traces
