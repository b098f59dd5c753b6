use Rattle.std.proofs.Common.{◌≡◌, ◌+◌, ◌∙◌, ◌≤◌, Result, sym, ap, ap₂, subst, inl, inr, arith, refl}
use Rattle.gc_refs.specs.declared.fault.RefFault.{RefFault}
use Rattle.std.specs.Prelude.{ℕ, IsOkAnd}
use Rattle.gc_types.specs.declared.kind.VMGcKind.TheVariants.{ExternRef}
use Rattle.gc_view.specs.Bytes.{u32_at}
use Rattle.gc_view.specs.Heaps.{HeapObject}
use Rattle.gc_heap.specs.Extents.{held_size}
use Rattle.gc_heap.specs.Lying.{LiesIn}
use Rattle.gc_heap.proofs.LyingLemmas.{host_lies, host_within, ok_same}
use Rattle.gc_heap.proofs.read.host_data.Goals as goal
use Rattle.gc_heap.proofs.read.host_data.Goals.{After-word_of-word}

word_told : (c : After-word_of-word) (o : HeapObject) → LiesIn c.args.layouts c.args.memory.now c.args.external.now o → o.kind ≡ ExternRef
    → IsOkAnd c.word_of-word.result (λ word. word ≡ u32_at o.bytes 0)
word_told c o l kind =
    let m = c.args.memory.now in
    let q = c.args.external.now in
    let layouts = c.args.layouts in
    let there = subst (λ p. LiesIn layouts m p o) (sym c.as_gc_ref.ensures) l in
    let within = subst (λ d. d + 4 ≤ held_size layouts o) (sym c.host_id.ensures) (host_within layouts m q o l kind) in
    ok_same c.word_of-word.result (λ word. word ≡ u32_at m (c.as_gc_ref.result.now + c.host_id.result)) (λ word. word ≡ u32_at o.bytes 0)
    (c.word_of-word.ensures.held o there kind within)
    (λ word is. is ∙ ap (u32_at m) (ap₂ (λ p d. p + d) c.as_gc_ref.ensures c.host_id.ensures) ∙ host_lies layouts m q o l kind)

pub returns-in-Some-clause-held : goal.returns-in-Some-clause-held
returns-in-Some-clause-held c o l kind is_host =
    let at = (goal.at.returns-in-Some-clause-held c).After-word_of-word in
    let raw = subst (λ (r : Result ℕ RefFault). IsOkAnd r (λ word. word ≡ u32_at o.bytes 0)) c.in-Ok.is (word_told at o l kind) in
    c.in-Some.ensures.some ∙ raw

pub returns-in-None-clause-held : goal.returns-in-None-clause-held
returns-in-None-clause-held c o l kind is_host =
    let at = (goal.at.returns-in-None-clause-held c).After-word_of-word in
    let raw = subst (λ (r : Result ℕ RefFault). IsOkAnd r (λ word. word ≡ u32_at o.bytes 0)) c.in-Ok.is (word_told at o l kind) in
    elim (c.in-None.ensures.none.0 refl) [
      | inl e ↦ omega (arith, is_host.0, raw, e)
      | inr more ↦ omega (arith, is_host.1, raw, more)
    ]

pub returns-in-Err-clause-held : goal.returns-in-Err-clause-held
returns-in-Err-clause-held c o l kind is_host =
    let at = (goal.at.returns-in-Err-clause-held c).After-word_of-word in
    subst (λ (r : Result ℕ RefFault). IsOkAnd r (λ word. word ≡ u32_at o.bytes 0)) c.in-Err.is (word_told at o l kind)
