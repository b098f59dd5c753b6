use Rattle.gc_commands.specs.declared.command.Command.TheVariants as command
use Rattle.gc_commands.specs.declared.reply.Reply.TheVariants as reply
use Rattle.gc_commands.specs.declared.reply.Refusal.TheVariants as refusal
use Rattle.std.proofs.Common.{refl}
use Rattle.gcsh_top.specs.Runs.{not_written}
use Rattle.gc_script.proofs.GoesLemmas.{unbuilt_runs}
use Rattle.gc_script.proofs.ResultLemmas.{on_err, on_ok}
use Rattle.gcsh_top.proofs.RunLemmas.{broke_as, ran_as}
use Rattle.gcsh_top.proofs.PieceLemmas.{kept_whole, long_line}
use Rattle.gcsh_top.proofs.WrittenLemmas.{wrote_err, wrote_ok}
use Rattle.gcsh_top.proofs.run.run_kept.Goals as goal

pub returns-then-is_long-clause-ran : goal.returns-then-is_long-clause-ran
returns-then-is_long-clause-ran g c =
    on_ok c.write_ending.result
    (λ replied line s is_kept holds. record {
      command = command.Bad;
      answer = reply.Refused refusal.BadLine;
      is_command = long_line c.args.kept.now c.is_long.result line c.is_long.ensures c.if-is_long.true is_kept;
      ran = unbuilt_runs _ _ _ s command.Bad _ _ holds refl;
      kept = λ is. absurd (cc);
      replied = replied;
    })
    (wrote_ok (reply.Refused refusal.BadLine) _ _ c.write_ending.result c.write_ending.ensures.wrote)

pub returns-then-is_long-clause-broke_off : goal.returns-then-is_long-clause-broke_off
returns-then-is_long-clause-broke_off g c =
    on_err c.write_ending.result
    (λ part line s is_kept holds. not_written {limits' = g.L.ResourceLimiter.limits c.args.limiter.now} {command = command.Bad} (long_line c.args.kept.now c.is_long.result line c.is_long.ensures c.if-is_long.true is_kept)
    (unbuilt_runs _ _ _ s command.Bad _ _ holds refl) part)
    (wrote_err (reply.Refused refusal.BadLine) _ _ c.write_ending.result c.write_ending.ensures.wrote)

pub returns-clause-ran : goal.returns-clause-ran
returns-clause-ran g c =
    on_ok c.run_line.result (λ ran line s is_kept holds. ran_as c.line.result.now line (kept_whole c.args.kept.now c.is_long.result c.line.result.now line c.is_long.ensures c.if-is_long.false c.line.ensures.kept is_kept) (ran s holds)) c.run_line.ensures.ran

pub returns-clause-broke_off : goal.returns-clause-broke_off
returns-clause-broke_off g c =
    on_err c.run_line.result (λ broke line s is_kept holds. broke_as c.line.result.now line (kept_whole c.args.kept.now c.is_long.result c.line.result.now line c.is_long.ensures c.if-is_long.false c.line.ensures.kept is_kept) (broke s holds)) c.run_line.ensures.broke_off
