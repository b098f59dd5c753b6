use Rattle.std.proofs.Common.{ℕ, List, ◌∷◌, ◌≡◌, ◌+◌, ◌<◌, drop, length, sym, ap, ◌∙◌, subst, arith}
use Rattle.gc_drc.specs.CollectTrace.{Traces, words_in_roots}
use Rattle.gc_drc.proofs.TraceMemory.{words_step, words_end}
use Rattle.gc_drc.proofs.space.CountedSpace.mark_roots.Goals as goal

pub visit-requires : goal.visit-requires
visit-requires c =
    let roots = c.args.roots.now.roots in
    let i = c.loop-index.index in
    let inside : i < length roots = omega (arith, c.loop-index-test.true, c.len-index-end.ensures) in
    let e : words_in_roots (drop i roots) ≡ c.as_raw_u32-word.result ∷ words_in_roots (drop (i + 1) roots) =
    words_step roots i inside ∙ ap (λ (w : ℕ). w ∷ words_in_roots (drop (i + 1) roots)) (sym c.word_at.ensures ∙ sym c.as_raw_u32-word.ensures.value) in (
      c.requires.0,
      (
        c.requires.1.0,
        (
          words_in_roots (drop (i + 1) roots),
          subst (λ (ws : List ℕ). Traces c.requires.0 c.requires.1.0 c.loop-index.self c.loop-index.reached.head c.loop-index.reached.fresh ws) e (c.loop-index.invariant c.requires.0 c.requires.1.0 c.requires.1.1),
        ),
      ),
    )

pub loop-index-preserved : goal.loop-index-preserved
loop-index-preserved c o unscanned t =
    let roots = c.args.roots.now.roots in
    let i = c.loop-index.index in
    let inside : i < length roots = omega (arith, c.loop-index-test.true, c.len-index-end.ensures) in
    let e : words_in_roots (drop i roots) ≡ c.as_raw_u32-word.result ∷ words_in_roots (drop (i + 1) roots) =
    words_step roots i inside ∙ ap (λ (w : ℕ). w ∷ words_in_roots (drop (i + 1) roots)) (sym c.word_at.ensures ∙ sym c.as_raw_u32-word.ensures.value) in
    c.visit.ensures o unscanned (words_in_roots (drop (i + 1) roots)) (subst (λ (ws : List ℕ). Traces o unscanned c.loop-index.self c.loop-index.reached.head c.loop-index.reached.fresh ws) e (c.loop-index.invariant o unscanned t))

pub returns : goal.returns
returns c o unscanned t =
    let e = words_end c.args.roots.now.roots c.loop-index.index (omega (arith, c.loop-index-test.false, c.len-index-end.ensures)) in
    subst (λ (ws : List ℕ). Traces o unscanned c.loop-index.self c.loop-index.reached.head c.loop-index.reached.fresh ws) e (c.loop-index.invariant o unscanned t)
