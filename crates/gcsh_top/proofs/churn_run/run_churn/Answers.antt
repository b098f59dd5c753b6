use Rattle.std.proofs.Common.{refl}
use Rattle.gcsh_top.specs.ChurnRuns.{to_its_end, within}
use Rattle.gcsh_top.proofs.ChurnLemmas.{nothing_run}
use Rattle.gcsh_top.proofs.churn_run.run_churn.Goals as goal

pub returns-in-Ok-clause-ran : goal.returns-in-Ok-clause-ran
returns-in-Ok-clause-ran g c =
    to_its_end _ (c.in-Ok.ensures.ran c.args.form (nothing_run g.H.GcHeap.KIND c.args.form c.args.store.now c.new-churner.result c.requires.ready c.new-churner.ensures.runner c.new-churner.ensures.limiter c.new-churner.ensures.refused)) c.write_summary.ensures

pub returns-clause-ran : goal.returns-clause-ran
returns-clause-ran g c =
    within (c.in-Err.ensures.stopped c.args.form (nothing_run g.H.GcHeap.KIND c.args.form c.args.store.now c.new-churner.result c.requires.ready c.new-churner.ensures.runner c.new-churner.ensures.limiter c.new-churner.ensures.refused)) refl refl

pub returns-in-Ok-clause-same : goal.returns-in-Ok-clause-same
returns-in-Ok-clause-same g c = record { engine = c.run_script.ensures.same.engine; number = c.run_script.ensures.same.number }

pub returns-clause-same : goal.returns-clause-same
returns-clause-same g c = record { engine = c.run_script.ensures.same.engine; number = c.run_script.ensures.same.number }
