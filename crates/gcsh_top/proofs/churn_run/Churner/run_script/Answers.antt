use Rattle.std.proofs.Common.{[], ◌∷◌, ◌++◌, refl}
use Rattle.gc_commands.specs.declared.command.Command.TheVariants.{Gc, Cap}
use Rattle.gc_script.proofs.ResultLemmas.{on_any_err}
use Rattle.gcsh_top.specs.Churn.{rounds_up_to}
use Rattle.gcsh_top.proofs.ChurnLemmas.{ran_churn, stopped_collecting, stopped_within}
use Rattle.gcsh_top.proofs.churn_run.Churner.run_script.Goals as goal

pub returns-in_err-begin-clause-stopped : goal.returns-in_err-begin-clause-stopped
returns-in_err-begin-clause-stopped g c =
    on_any_err c.from_residual.result (λ form start. stopped_within g.H.GcHeap.KIND form _ _ (rounds_up_to c.args.rounds c.args.rounds ++ Gc ∷ Cap ∷ []) _ (c.in_err-begin.ensures.stopped form start) refl)

pub returns-in_err-run_rounds-clause-stopped : goal.returns-in_err-run_rounds-clause-stopped
returns-in_err-run_rounds-clause-stopped g c =
    on_any_err c.from_residual-in_err-run_rounds.result
    (λ form start.
    let front = c.in_ok-begin.ensures.ran form start in
    stopped_within g.H.GcHeap.KIND form _ _ (Gc ∷ Cap ∷ []) _ (c.in_err-run_rounds.ensures.stopped form _ front.0 front.1) refl)

pub returns-in_err-held-clause-stopped : goal.returns-in_err-held-clause-stopped
returns-in_err-held-clause-stopped g c =
    on_any_err c.from_residual-in_err-held.result
    (λ form start.
    let front = c.in_ok-begin.ensures.ran form start in
    let rounds = c.in_ok-run_rounds.ensures.ran form _ front.0 front.1 in
    stopped_collecting g.H.GcHeap.KIND form c.args.rounds _ (c.in_err-held.ensures.stopped form _ rounds.0 rounds.1))

pub returns-clause-ran : goal.returns-clause-ran
returns-clause-ran g c form start =
    let front = c.in_ok-begin.ensures.ran form start in
    let rounds = c.in_ok-run_rounds.ensures.ran form _ front.0 front.1 in
    ran_churn g.H.GcHeap.KIND form c.args.rounds _ rounds.0 c.in_ok-held.held c.capacity.result _ _ (c.in_ok-held.ensures.ran form _ rounds.0 rounds.1) c.capacity.ensures.step c.capacity.ensures.told refl
