use Rattle.std.proofs.Common.{[], ◌∷◌, refl, sym, ap}
use Rattle.gc_commands.specs.declared.command.Command.{Command}
use Rattle.gc_commands.specs.declared.command.Command.TheVariants.{Push}
use Rattle.gc_script.proofs.ResultLemmas.{on_any_err}
use Rattle.gcsh_top.proofs.ChurnLemmas.{not_made, run_as, stopped_as, stopped_within}
use Rattle.gcsh_top.proofs.churn_run.Churner.begin.Goals as goal

pub returns-in_default-clause-stopped : goal.returns-in_default-clause-stopped
returns-in_default-clause-stopped g c form start = stopped_within g.H.GcHeap.KIND form _ _ (Push 8 ∷ []) _ (not_made g.H.GcHeap.KIND form [] [] _ _ start _) refl

pub returns-in_err-run-clause-stopped : goal.returns-in_err-run-clause-stopped
returns-in_err-run-clause-stopped g c =
    on_any_err c.from_residual.result (λ form start. stopped_within g.H.GcHeap.KIND form _ _ (Push 8 ∷ []) _ (c.in_err-run.ensures.stopped form [] [] start) (ap (λ (x : Command). x ∷ Push 8 ∷ []) (sym c.in-Ok.ensures)))

pub returns-in_err-run-2-clause-stopped : goal.returns-in_err-run-2-clause-stopped
returns-in_err-run-2-clause-stopped g c =
    on_any_err c.from_residual-in_err-run-2.result
    (λ form start. stopped_as g.H.GcHeap.KIND form _ _ _ (ap (λ (x : Command). x ∷ Push 8 ∷ []) c.in-Ok.ensures) (c.in_err-run-2.ensures.stopped form _ _ (c.in_ok-run.ensures.ran form [] [] start)))

pub returns-clause-ran : goal.returns-clause-ran
returns-clause-ran g c form start = (_, run_as g.H.GcHeap.KIND form _ _ _ _ _ (ap (λ (x : Command). x ∷ Push 8 ∷ []) c.in-Ok.ensures) (c.in_ok-run-2.ensures.ran form _ _ (c.in_ok-run.ensures.ran form [] [] start)))
