use Rattle.std.proofs.Common.{◌≡◌, Some, ap, ◌∙◌}
use Rattle.std.specs.Prelude.{IsOkAnd}
use Rattle.std.specs.FinMap as finite
use Rattle.gc_types.specs.declared.kind.VMGcKind.TheVariants.{ArrayRef}
use Rattle.gc_view.specs.Heaps.{HeapObject}
use Rattle.gc_heap.specs.Extents.{array_length}
use Rattle.gc_values.proofs.Describing.{ok_there, ok_value, one_held}
use Rattle.gc_values.proofs.describe.length_of.Given.{Over}
use Rattle.gc_values.proofs.describe.length_of.Goals.{After-array_len}
use Rattle.gc_values.proofs.describe.length_of.Goals as goal

-- the heap tells the length of an array that is held
told : (g : Over) (c : After-array_len g) (o : HeapObject) → finite.get (g.H.GcHeap.seen c.args.heap.now).content c.args.gc_ref.now ≡ Some o → IsOkAnd c.array_len.result (λ count. count ≡ array_length o)
told g c o held =
    let word = c.new_unchecked-array.ensures ∙ c.unchecked_copy.ensures in
    let kind : o.kind ≡ ArrayRef = ap (λ (x : HeapObject). x.kind) (one_held (g.H.GcHeap.seen c.args.heap.now) c.args.gc_ref.now o c.requires.held.0 held c.requires.held.1.0) ∙ c.requires.held.1.1 in
    c.array_len.ensures.held o (ap (finite.get (g.H.GcHeap.seen c.args.heap.now).content) word ∙ held) kind

pub unwrap-requires : goal.unwrap-requires
unwrap-requires g c =
    let at = (goal.at.unwrap-requires g c).After-array_len in
    ok_there c.array_len.result _ (told g at c.requires.held.0 c.requires.held.1.0)

pub returns : goal.returns
returns g c = λ o held.
    let at = (goal.at.returns g c).After-array_len in
    ok_value c.array_len.result c.unwrap.result (λ count. count ≡ array_length o) (told g at o held) c.unwrap.ensures
