use Rattle.std.specs.Option.{option_copied}
use Rattle.std.proofs.Common.{◌≡◌, Some, sym, ap, ◌∙◌}
use Rattle.gc_types.specs.Layouts.{layout_at}
use Rattle.gc_heap.proofs.TakenLayouts.{taken_layout}
use Rattle.test_client.proofs.allocation.make_struct.Goals as goal
use Rattle.test_client.proofs.allocation.make_struct.Goals.{In-Some}

declared : (g : _) (c : In-Some g) → layout_at g.H.GcHeap.KIND c.args.types.now.declarations c.args.ty ≡ Some c.in-Some.layout.now
declared g c = ap (λ l. layout_at l c.args.types.now.declarations c.args.ty) (sym c.KIND.ensures) ∙ sym c.struct_layout.ensures.value ∙ ap option_copied c.in-Some.is

pub alloc_uninit_struct_or_exn-requires-clause-size : goal.alloc_uninit_struct_or_exn-requires-clause-size
alloc_uninit_struct_or_exn-requires-clause-size g c =
    (taken_layout g.H.GcHeap.KIND c.args.types.now.declarations c.args.ty c.in-Some.layout.now (declared g (goal.at.alloc_uninit_struct_or_exn-requires-clause-size g c).In-Some)).least

pub alloc_uninit_struct_or_exn-requires-clause-traces : goal.alloc_uninit_struct_or_exn-requires-clause-traces
alloc_uninit_struct_or_exn-requires-clause-traces g c =
    (taken_layout g.H.GcHeap.KIND c.args.types.now.declarations c.args.ty c.in-Some.layout.now (declared g (goal.at.alloc_uninit_struct_or_exn-requires-clause-traces g c).In-Some)).traces

pub returns-in-Ok-Ok-clause-made : goal.returns-in-Ok-Ok-clause-made
returns-in-Ok-Ok-clause-made g c = record {
  layout = c.in-Some.layout.now;
  declared = declared g (goal.at.returns-in-Ok-Ok-clause-made g c).In-Some;
  adds = rw c.in-Ok-Ok.field-0-is at c.in-Ok-Ok.ensures.allocated;
}
