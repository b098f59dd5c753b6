use Rattle.std.proofs.Common.{sym, ap, ◌∙◌}
use Rattle.std.proofs.lemmas.Bool.{false≢true}
use Rattle.gc_commands.specs.declared.reply.Reply.TheVariants as reply
use Rattle.gc_commands.specs.declared.reply.Refusal.TheVariants as refusal
use Rattle.gc_script.specs.Built.{is_built}
use Rattle.gc_script.specs.Endings.{answer_of}
use Rattle.gcsh_top.specs.Runs.{not_written}
use Rattle.gc_script.proofs.EndingLemmas.{quiet_collects}
use Rattle.gc_script.proofs.GoesLemmas.{collection_built, unbuilt_runs}
use Rattle.gc_script.proofs.ResultLemmas.{on_ok, on_err}
use Rattle.gcsh_top.proofs.WrittenLemmas.{line_broke, line_ran, runs_line, wrote_err, wrote_ok}
use Rattle.gcsh_top.proofs.run.run_read.Goals as goal

pub returns-in-Bad-clause-runs : goal.returns-in-Bad-clause-runs
returns-in-Bad-clause-runs g c =
    runs_line _ _ _ _ c.args.line.now c.args.store.now _ c.args.runner.now _ _ _ c.write_ending.result
    (on_ok c.write_ending.result
    (λ replied s holds. record {
      command = c.in-Ok.command;
      answer = reply.Refused refusal.BadLine;
      is_command = c.in-Ok.ensures;
      ran = unbuilt_runs _ _ _ s c.in-Ok.command _ _ holds (ap is_built c.in-Bad.is);
      kept = λ is. absurd (false≢true (sym (ap is_built c.in-Bad.is) ∙ collection_built c.in-Ok.command is));
      replied = replied;
    })
    (wrote_ok (reply.Refused refusal.BadLine) _ _ c.write_ending.result c.write_ending.ensures.wrote))
    (on_err c.write_ending.result
    (λ part s holds. not_written {limits' = g.L.ResourceLimiter.limits c.args.limiter.now} c.in-Ok.ensures (unbuilt_runs _ _ _ s c.in-Ok.command _ _ holds (ap is_built c.in-Bad.is)) part)
    (wrote_err (reply.Refused refusal.BadLine) _ _ c.write_ending.result c.write_ending.ensures.wrote))

pub returns-then-is_quiet-clause-runs : goal.returns-then-is_quiet-clause-runs
returns-then-is_quiet-clause-runs g c =
    runs_line _ _ _ _ c.args.line.now c.args.store.now _ c.args.runner.now _ _ _ c.write_ending-then-is_quiet.result
    (line_ran _ _ _ _ c.args.line.now c.in-Ok.command c.args.store.now _ c.args.runner.now _ _ _ (answer_of c.run_quiet-ending.result) c.write_ending-then-is_quiet.result c.in-Ok.ensures c.run_quiet-ending.ensures.runs
    (λ is. quiet_collects c.in-Ok.command (sym c.is_quiet.ensures ∙ c.if-is_quiet.true) is) c.write_ending-then-is_quiet.ensures.wrote)
    (line_broke _ _ _ _ c.args.line.now c.in-Ok.command c.args.store.now _ c.args.runner.now _ _ _ (answer_of c.run_quiet-ending.result) c.write_ending-then-is_quiet.result c.in-Ok.ensures c.run_quiet-ending.ensures.runs
    c.write_ending-then-is_quiet.ensures.wrote)

pub returns-clause-runs : goal.returns-clause-runs
returns-clause-runs g c =
    runs_line _ _ _ _ c.args.line.now c.args.store.now _ c.args.runner.now _ _ _ c.tell.result
    (on_ok c.tell.result (λ ran s holds. ran c.args.line.now s c.in-Ok.ensures holds) (c.tell.ensures.ran (g.L.ResourceLimiter.limits c.args.limiter.now)))
    (on_err c.tell.result (λ broke s holds. broke c.args.line.now s c.in-Ok.ensures holds) (c.tell.ensures.broke_off (g.L.ResourceLimiter.limits c.args.limiter.now)))
