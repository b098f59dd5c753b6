use Rattle.gcsh_top.specs.Runs.{not_run, not_written}
use Rattle.gc_script.proofs.ResultLemmas.{on_ok, on_err}
use Rattle.gc_script.proofs.KeptLemmas.{kept_after}
use Rattle.gcsh_top.proofs.RunLemmas.{keeps_same}
use Rattle.gcsh_top.proofs.run.tell.Goals as goal

pub returns-in-Ok-clause-ran : goal.returns-in-Ok-clause-ran
returns-in-Ok-clause-ran g c limits =
    on_ok c.write_reply.result
    (λ replied line s is holds. record {
      command = c.args.command;
      answer = c.in-Ok.reply;
      is_command = is;
      ran = c.in-Ok.ensures.runs limits s holds;
      kept = λ collects. kept_after _ _ _ _ s _ _ (c.in-Ok.ensures.runs limits s holds) collects (c.in-Ok.ensures.kept collects s holds);
      replied = replied;
    })
    c.write_reply.ensures.replied

pub returns-in-Ok-clause-broke_off : goal.returns-in-Ok-clause-broke_off
returns-in-Ok-clause-broke_off g c limits = on_err c.write_reply.result (λ part line s is holds. not_written is (c.in-Ok.ensures.runs limits s holds) part) c.write_reply.ensures.part

pub returns-clause-broke_off : goal.returns-clause-broke_off
returns-clause-broke_off g c limits line s is holds = not_run is (c.in-Err-OutOfMemory.ensures.runs limits s holds) (keeps_same _)
