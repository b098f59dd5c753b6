use Rattle.std.proofs.Common.{◌≡◌, ◌+◌, if◌then◌else◌, None, sym, ◌∙◌, ap}
use Rattle.gc_types.specs.declared.kind.Layouts.TheVariants.{Counting}
use Rattle.gc_types.specs.Layouts.{trace_at}
use Rattle.gc_memory.specs.Words.{word}
use Rattle.gc_memory.proofs.WordLemmas.{word-is}
use Rattle.gc_drc.specs.CollectMemory.{info_of}
use Rattle.gc_drc.proofs.space.CountedSpace.trace_info_of.Goals as goal

pub returns-then-has_references : goal.returns-then-has_references
returns-then-has_references c =
    let m = c.args.self.now.memory in
    let p = c.args.place in
    let types = c.args.types.now.declarations in
    let has : info_of c.kind.result (trace_at Counting types (word m (p + 4))) ≡ trace_at Counting types (word m (p + 4)) =
    c.has_references.ensures (trace_at Counting types (word m (p + 4))) ∙ ap (λ b. if b then trace_at Counting types (word m (p + 4)) else None) c.if-has_references.true in
    let ty : c.type_index.result ≡ word m (p + 4) = c.type_index.ensures ∙ ap (λ h. h.type_word) c.read_header-header.ensures ∙ sym (word-is m (p + 4)) in
    c.trace_info.ensures ∙ ap (trace_at Counting types) ty ∙ sym has ∙ ap (λ k. info_of k (trace_at Counting types (word m (p + 4)))) c.kind.ensures
