use Rattle.std.proofs.Common.{sym, ap, subst, ◌∙◌}
use Rattle.std.specs.Prelude.{is_ok}
use Rattle.gc_script.specs.Given.{given_held}
use Rattle.gc_script.specs.Values.{IsFoundLive}
use Rattle.gc_script.proofs.ValueLemmas.{found_plain, found_live, word_told}
use Rattle.gc_script.proofs.values.is_live.Goals as goal

pub returns-in-Ok : goal.returns-in-Ok
returns-in-Ok g c t held holds stands =
    subst (IsFoundLive c.args.store.now t c.args.value.now (given_held t held)) (ap is_ok c.in-Ok.is)
    (found_live g.H.GcHeap.KIND c.args.store.now t holds c.in-Some.handle (is_ok c.word.result) (λ r named. word_told holds.0 r c.word.result (c.word.ensures.live t holds.0 r holds.1 named))
    (λ of_store nothing. ap is_ok (c.word.ensures.gone of_store t holds nothing)) c.args.value.now held (sym c.handle.ensures ∙ c.in-Some.is) stands)

pub returns-in-Err : goal.returns-in-Err
returns-in-Err g c t held holds stands =
    subst (IsFoundLive c.args.store.now t c.args.value.now (given_held t held)) (ap is_ok c.in-Err.is)
    (found_live g.H.GcHeap.KIND c.args.store.now t holds c.in-Some.handle (is_ok c.word.result) (λ r named. word_told holds.0 r c.word.result (c.word.ensures.live t holds.0 r holds.1 named))
    (λ of_store nothing. ap is_ok (c.word.ensures.gone of_store t holds nothing)) c.args.value.now held (sym c.handle.ensures ∙ c.in-Some.is) stands)

pub returns-in-None : goal.returns-in-None
returns-in-None g c t held holds stands = found_plain c.args.store.now t c.args.value.now held (sym c.handle.ensures ∙ c.in-None.is) stands
