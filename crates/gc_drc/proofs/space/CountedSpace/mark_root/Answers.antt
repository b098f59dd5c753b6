use Rattle.std.proofs.Common.{ℕ, List, ◌∷◌, ◌+◌, ◌≡◌, drop, sym, ap, ◌∙◌, subst}
use Rattle.gc_heap.specs.Collection.{stack_words}
use Rattle.gc_drc.specs.CollectSweep.{FrameMarks}
use Rattle.gc_drc.proofs.SweepMemory.{stack_step, stack_pass}
use Rattle.gc_drc.proofs.space.CountedSpace.mark_root.Goals as goal

pub mark_frame-requires : goal.mark_frame-requires
mark_frame-requires c =
    let roots = c.args.roots.now.roots in
    let i = c.args.index in
    let e : stack_words (drop i roots) ≡ c.as_raw_u32-word.result ∷ stack_words (drop (i + 1) roots) =
    stack_step roots i c.requires.index (sym c.is_on_wasm_stack_at.ensures ∙ c.if-is_on_wasm_stack_at.true)
    ∙ ap (λ (w : ℕ). w ∷ stack_words (drop (i + 1) roots)) (sym c.word_at.ensures ∙ sym c.as_raw_u32-word.ensures.value) in
    record {
      context = c.requires.marks.0;
      left = stack_words (drop (i + 1) roots);
      marks = subst (λ (ws : List ℕ). FrameMarks c.requires.marks.0 c.args.self.now ws) e c.requires.marks.1;
    }

pub returns-then-is_on_wasm_stack_at : goal.returns-then-is_on_wasm_stack_at
returns-then-is_on_wasm_stack_at c o m =
    let roots = c.args.roots.now.roots in
    let i = c.args.index in
    let e : stack_words (drop i roots) ≡ c.as_raw_u32-word.result ∷ stack_words (drop (i + 1) roots) =
    stack_step roots i c.requires.index (sym c.is_on_wasm_stack_at.ensures ∙ c.if-is_on_wasm_stack_at.true)
    ∙ ap (λ (w : ℕ). w ∷ stack_words (drop (i + 1) roots)) (sym c.word_at.ensures ∙ sym c.as_raw_u32-word.ensures.value) in
    c.mark_frame.ensures o (stack_words (drop (i + 1) roots)) (subst (λ (ws : List ℕ). FrameMarks o c.args.self.now ws) e m)

pub returns-else-is_on_wasm_stack_at : goal.returns-else-is_on_wasm_stack_at
returns-else-is_on_wasm_stack_at c o m =
    subst (λ (ws : List ℕ). FrameMarks o c.args.self.now ws) (stack_pass c.args.roots.now.roots c.args.index c.requires.index (sym c.is_on_wasm_stack_at.ensures ∙ c.if-is_on_wasm_stack_at.false)) m
