use Rattle.std.proofs.Common.{◌≡◌, ℕ, ◌+◌, ◌-◌, ◌≤◌, ap, ◌∙◌, arith}
use Rattle.gc_types.specs.Layouts.{struct_base}
use Rattle.gc_view.specs.Bytes.{u32_at}
use Rattle.gc_heap.specs.Access.{IsReadable}
use Rattle.gc_values.proofs.Describing.{tag_readable}
use Rattle.gc_values.proofs.describe.tag_of.Given.{Over}
use Rattle.gc_values.proofs.describe.tag_of.Goals.{After-struct_base-base}
use Rattle.gc_values.proofs.describe.tag_of.Goals as goal

base_is : (g : Over) (c : After-struct_base-base g) → c.struct_base-base.result ≡ struct_base g.H.GcHeap.KIND
base_is g c = c.struct_base-base.ensures.value ∙ ap struct_base c.KIND.ensures

readable : (g : Over) (c : After-struct_base-base g) (offset : ℕ) → struct_base g.H.GcHeap.KIND ≤ offset → offset + 4 ≤ struct_base g.H.GcHeap.KIND + 8 → IsReadable g.H.GcHeap.KIND (g.H.GcHeap.seen c.args.heap.now) c.args.gc_ref.now offset 4
readable g c offset low high =
    tag_readable g.H.GcHeap.KIND (g.H.GcHeap.seen c.args.heap.now) c.args.gc_ref.now c.requires.held.0 offset (g.met.H.GcHeap.is_heap c.args.heap.now c.requires.sound) c.requires.held.1.0 c.requires.held.1.1 low high

pub read_u32-requires-clause-inside : goal.read_u32-requires-clause-inside
read_u32-requires-clause-inside g c =
    let at = (goal.at.read_u32-requires-clause-inside g c).After-struct_base-base in
    let base = base_is g at in
    readable g at c.struct_base-base.result (omega arith) (omega arith)

pub read_u32-requires-2-clause-inside : goal.read_u32-requires-2-clause-inside
read_u32-requires-2-clause-inside g c =
    let at = (goal.at.read_u32-requires-2-clause-inside g c).After-struct_base-base in
    let base = base_is g at in
    readable g at (c.struct_base-base.result + 4) (omega arith) (omega arith)

pub returns : goal.returns
returns g c = λ o held.
    let base = base_is g (goal.at.returns g c).After-struct_base-base in
    let first : c.struct_base-base.result - struct_base g.H.GcHeap.KIND ≡ 0 = omega arith in
    let second : c.struct_base-base.result + 4 - struct_base g.H.GcHeap.KIND ≡ 4 = omega arith in
    let instance = c.read_u32.ensures o held ∙ ap (u32_at o.bytes) first in
    let index = c.read_u32-2.ensures o held ∙ ap (u32_at o.bytes) second in
    λ i. record { instance = instance i; index = index i }
