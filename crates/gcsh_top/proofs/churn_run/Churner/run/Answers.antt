use Rattle.std.proofs.Common.{◌+◌, ap}
use Rattle.gc_script.proofs.ResultLemmas.{on_any_err}
use Rattle.gcsh_top.proofs.ChurnLemmas.{one_more, one_stopped}
use Rattle.gcsh_top.proofs.churn_run.Churner.run.Goals as goal

pub returns-in_err-reply-clause-stopped : goal.returns-in_err-reply-clause-stopped
returns-in_err-reply-clause-stopped g c =
    on_any_err c.from_residual.result (λ form commands replies so_far. one_stopped g.H.GcHeap.KIND form commands replies _ _ so_far _ _ _ c.args.command.now c.run_one.ensures.same (c.in_err-reply.ensures.runs so_far.after so_far.holds))

pub returns-clause-ran : goal.returns-clause-ran
returns-clause-ran g c form commands replies so_far =
    one_more g.H.GcHeap.KIND form commands replies _ _ so_far _ _ c.args.command.now c.in_ok-reply.reply c.run_one.ensures.same (c.in_ok-reply.ensures.runs so_far.after so_far.holds)
    (λ is. c.in_ok-reply.ensures.kept is so_far.after so_far.holds) (ap (λ n. c.args.self.now.refused + n) c.refusals.ensures)
