use Rattle.std.proofs.Common.{ℕ, ◌≡◌, ◌<◌, ◌≤◌, true, length, get_or, sym, subst}
use Rattle.gc_types.specs.declared.layout.FieldLayout.{FieldLayout}
use Rattle.gc_heap.specs.Extents.{first_offset}
use Rattle.gc_heap.specs.Heap.{layout_kind}
use Rattle.gc_heap.specs.Rules.{LayoutTraces}
use Rattle.gc_heap.proofs.TraceLemmas.{refs_from}
use Rattle.gc_heap.proofs.new_object.spare_of_struct.Goals as goal

pub struct_trace-requires : goal.struct_trace-requires
struct_trace-requires c =
    let layout = c.args.layout.now in
    subst (λ fs. (k : ℕ) (d : FieldLayout) → k < length fs → (get_or fs k d).is_gc_ref ≡ true → 12 ≤ (get_or fs k d).offset) (sym c.as_slice.ensures)
    (refs_from layout (subst (λ layouts. LayoutTraces layouts layout (first_offset layouts (layout_kind layout))) c.in-Copying.is c.requires))
