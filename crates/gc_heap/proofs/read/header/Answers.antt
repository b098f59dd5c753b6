use Rattle.std.proofs.Common.{◌+◌, ◌∙◌, sym, subst}
use Rattle.gc_refs.specs.Header.{Header}
use Rattle.gc_view.specs.Bytes.{u32_at}
use Rattle.gc_heap.specs.Objects.{IsHeaderOf}
use Rattle.gc_heap.proofs.LyingLemmas.{header_lies}
use Rattle.gc_heap.proofs.read.header.Goals as goal

pub returns-in-Ok-clause-held : goal.returns-in-Ok-clause-held
returns-in-Ok-clause-held c o l =
    let m = c.args.memory.now in
    let start = c.in-Ok.ensures.inside.start_is in
    let same = c.read_header.ensures ∙ (λ i. record { kind_word = u32_at m (start i); type_word = u32_at m (start i + 4) }) in
    subst (λ (h : Header). IsHeaderOf c.args.layouts o h) (sym same) (header_lies c.args.layouts m c.args.gc_ref.now o l)
