use Rattle.std.proofs.Common.{◌≡◌, ◌+◌, ◌∙◌, ◌≤◌, sym, ap, ap₂, subst}
use Rattle.gc_view.specs.Bytes.{u32_at}
use Rattle.gc_heap.specs.Extents.{array_length, held_size}
use Rattle.gc_heap.specs.Lying.{LiesIn}
use Rattle.gc_heap.proofs.LyingLemmas.{length_lies, length_within, ok_same}
use Rattle.gc_heap.proofs.read.array_len.Goals as goal

pub returns-clause-held : goal.returns-clause-held
returns-clause-held c o l kind =
    let m = c.args.memory.now in
    let q = c.args.array.now in
    let layouts = c.args.layouts in
    let there = subst (λ p. LiesIn layouts m p o) (sym c.as_gc_ref.ensures) l in
    let within = subst (λ d. d + 4 ≤ held_size layouts o) (sym c.array_length.ensures) (length_within layouts m q o l kind) in
    ok_same c.word_of.result (λ word. word ≡ u32_at m (c.as_gc_ref.result.now + c.array_length.result)) (λ count. count ≡ array_length o)
    (c.word_of.ensures.held o there kind within)
    (λ word is. is ∙ ap (u32_at m) (ap₂ (λ p d. p + d) c.as_gc_ref.ensures c.array_length.ensures) ∙ length_lies layouts m q o l kind)
