use Rattle.std.specs.Option.{option_copied}
use Rattle.std.proofs.Common.{◌≡◌, Some, sym, ap, ◌∙◌}
use Rattle.gc_types.specs.Layouts.{array_layout_at}
use Rattle.gc_heap.proofs.TakenLayouts.{taken_array}
use Rattle.test_client.proofs.allocation.make_array.Goals as goal
use Rattle.test_client.proofs.allocation.make_array.Goals.{In-Some}

declared : (g : _) (c : In-Some g) → array_layout_at g.H.GcHeap.KIND c.args.types.now.declarations c.args.ty ≡ Some c.in-Some.layout.now
declared g c = ap (λ l. array_layout_at l c.args.types.now.declarations c.args.ty) (sym c.KIND.ensures) ∙ sym c.array_layout.ensures ∙ ap option_copied c.in-Some.is

pub alloc_uninit_array-requires-clause-size : goal.alloc_uninit_array-requires-clause-size
alloc_uninit_array-requires-clause-size g c =
    (taken_array g.H.GcHeap.KIND c.args.types.now.declarations c.args.ty c.in-Some.layout.now (declared g (goal.at.alloc_uninit_array-requires-clause-size g c).In-Some)).least

pub alloc_uninit_array-requires-clause-traces : goal.alloc_uninit_array-requires-clause-traces
alloc_uninit_array-requires-clause-traces g c =
    (taken_array g.H.GcHeap.KIND c.args.types.now.declarations c.args.ty c.in-Some.layout.now (declared g (goal.at.alloc_uninit_array-requires-clause-traces g c).In-Some)).traces

pub returns-in-Ok-Ok-clause-made : goal.returns-in-Ok-Ok-clause-made
returns-in-Ok-Ok-clause-made g c = record {
  layout = c.in-Some.layout.now;
  declared = declared g (goal.at.returns-in-Ok-Ok-clause-made g c).In-Some;
  adds = rw c.in-Ok-Ok.field-0-is at c.in-Ok-Ok.ensures.allocated;
}
