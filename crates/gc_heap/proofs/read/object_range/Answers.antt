use Rattle.std.proofs.Common.{◌+◌, ◌∙◌, ap, ap₂, arith}
use Rattle.gc_heap.specs.Lying.{told_size}
use Rattle.gc_heap.proofs.LyingLemmas.{least_lies, size_told}
use Rattle.gc_heap.proofs.read.object_range.Goals as goal
use Rattle.gc_heap.proofs.read.object_range.Goals.{then-size-least-via-then-size-least, then-size-least-via-else-size-least+then-end-bytes}

pub returns-then-size-least-clause-held : goal.returns-then-size-least-clause-held
returns-then-size-least-clause-held c o l =
    let m = c.args.memory.now in
    let place = c.as_raw_u32-place.ensures.value in
    let size = c.told_size-size.ensures ∙ ap (told_size c.args.layouts m) place ∙ size_told c.args.layouts m c.args.gc_ref.now o l in
    let least = least_lies c.args.layouts m c.args.gc_ref.now o l in
    elim c.then-size-least.branch [
      | then-size-least-via-then-size-least w ↦ omega (arith, least, size, c.struct_base-least.ensures.value, w.if-size-least.true)
      | then-size-least-via-else-size-least+then-end-bytes w ↦ omega (arith, l.lies.inside, size, place, c.byte_size-bytes.ensures, w.if-end-bytes.true)
    ]

pub returns-clause-held : goal.returns-clause-held
returns-clause-held c o l =
    let m = c.args.memory.now in
    let place = c.as_raw_u32-place.ensures.value in
    let size = c.told_size-size.ensures ∙ ap (told_size c.args.layouts m) place ∙ size_told c.args.layouts m c.args.gc_ref.now o l in
    (place, ap₂ (λ a b. a + b) place size)
