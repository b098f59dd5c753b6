use Rattle.std.proofs.Common.{Bool, sym, ap, subst, ◌∙◌}
use Rattle.std.specs.Prelude.{is_ok}
use Rattle.gc_script.specs.Given.{given_held}
use Rattle.gc_script.specs.Values.{IsFoundLive}
use Rattle.gc_script.proofs.ValueLemmas.{found_plain, found_handle}
use Rattle.gc_script.proofs.values.named_by.Goals as goal

pub returns-in-Ok-clause-found : goal.returns-in-Ok-clause-found
returns-in-Ok-clause-found g c t held holds stands =
    subst (λ (b : Bool). IsFoundLive c.args.store.now t c.args.value.now (given_held t held) b) (ap is_ok c.in-Ok.is)
    (found_handle g.H.GcHeap.KIND c.args.store.now t holds c.in-Some.handle c.object.result (λ r named. c.object.ensures.live t r holds named) (λ of_store nothing. c.object.ensures.gone of_store t holds nothing)
    c.args.value.now held (sym c.handle.ensures ∙ c.in-Some.is) stands)

pub returns-in-Err-clause-found : goal.returns-in-Err-clause-found
returns-in-Err-clause-found g c t held holds stands =
    subst (λ (b : Bool). IsFoundLive c.args.store.now t c.args.value.now (given_held t held) b) (ap is_ok c.in-Err.is)
    (found_handle g.H.GcHeap.KIND c.args.store.now t holds c.in-Some.handle c.object.result (λ r named. c.object.ensures.live t r holds named) (λ of_store nothing. c.object.ensures.gone of_store t holds nothing)
    c.args.value.now held (sym c.handle.ensures ∙ c.in-Some.is) stands)

pub returns-else-is_opaque-clause-found : goal.returns-else-is_opaque-clause-found
returns-else-is_opaque-clause-found g c t held holds stands = found_plain c.args.store.now t c.args.value.now held (sym c.handle.ensures ∙ c.in-None.is) stands
