use Rattle.std.proofs.Common.{◌∙◌, sym, subst}
use Rattle.std.proofs.Common.{List, ℕ}
use Rattle.gc_heap.specs.Objects.{IsObjectData}
use Rattle.gc_heap.proofs.LyingLemmas.{range_lies}
use Rattle.gc_heap.proofs.read.object_data.Goals as goal

pub returns-in-Ok-clause-held : goal.returns-in-Ok-clause-held
returns-in-Ok-clause-held c o l =
    let range = c.in-Ok.ensures.held o l in
    subst (λ (bytes : List ℕ). IsObjectData c.args.layouts o bytes)
    (sym (c.from_slice.ensures ∙ c.slice.ensures ∙ range_lies c.args.memory.now c.in-Ok.range.start c.in-Ok.range.end c.args.gc_ref.now _ range.0 range.1)) l.object
