use Rattle.std.proofs.Common.{◌≡◌, Some, subst}
use Rattle.gc_types.specs.Layouts.{layout_at}
use Rattle.gc_heap.proofs.TakenLayouts.{taken_layout}
use Rattle.gc_owner.specs.declared.allocate.Description.{Description}
use Rattle.gc_owner.specs.Tries.{DescribesDeclared}
use Rattle.gc_owner.proofs.allocate.new_object.Goals as goal
use Rattle.gc_owner.proofs.allocate.new_object.Goals.{In-Object}

-- the layout is that of the type
declared : (g : _) (c : In-Object g) → layout_at g.H.GcHeap.KIND c.requires.told.0 c.in-Object.ty ≡ Some c.in-Object.layout.now
declared g c = (subst (λ (d : Description). DescribesDeclared g.H.GcHeap.KIND c.requires.told.0 d c.requires.told.1.0 c.requires.told.1.1.0) c.in-Object.is c.requires.told.1.1.1).0

pub alloc_uninit_struct_or_exn-requires-clause-size : goal.alloc_uninit_struct_or_exn-requires-clause-size
alloc_uninit_struct_or_exn-requires-clause-size g c =
    (taken_layout g.H.GcHeap.KIND c.requires.told.0 c.in-Object.ty c.in-Object.layout.now (declared g (goal.at.alloc_uninit_struct_or_exn-requires-clause-size g c).In-Object)).least

pub alloc_uninit_struct_or_exn-requires-clause-traces : goal.alloc_uninit_struct_or_exn-requires-clause-traces
alloc_uninit_struct_or_exn-requires-clause-traces g c =
    (taken_layout g.H.GcHeap.KIND c.requires.told.0 c.in-Object.ty c.in-Object.layout.now (declared g (goal.at.alloc_uninit_struct_or_exn-requires-clause-traces g c).In-Object)).traces
