use Rattle.gc_script.proofs.GoesLemmas.{wants_nothing}
use Rattle.gc_script.proofs.KeptLemmas.{kept_after}
use Rattle.gc_script.proofs.ResultLemmas.{on_any_err}
use Rattle.gc_script.proofs.ScriptLemmas.{reply_behind}
use Rattle.gc_script.proofs.script.run_next.Goals as goal

pub returns-then-is_err-clause-wants : goal.returns-then-is_err-clause-wants
returns-then-is_err-clause-wants g c s holds = record { wants = wants_nothing _ _ _ s _ _ _ _ holds }

pub returns-in_err-reply-clause-wants : goal.returns-in_err-reply-clause-wants
returns-in_err-reply-clause-wants g c = on_any_err c.from_residual.result c.in_err-reply.ensures.runs

pub returns-clause-ran : goal.returns-clause-ran
returns-clause-ran g c s holds =
    let ran = c.in_ok-reply.ensures.runs s holds in
    record {
      answer = c.in_ok-reply.reply;
      ran = ran;
      kept = λ is. kept_after _ _ _ _ s _ _ ran is (c.in_ok-reply.ensures.kept is s holds);
      appended = reply_behind _ _ _ c.in_ok-reply.reply c.reserve.ensures.items c.in-Ok.ensures.items;
    }
