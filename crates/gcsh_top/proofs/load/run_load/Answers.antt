use Rattle.std.proofs.Common.{List, ℕ, subst}
use Rattle.gcsh_top.specs.LoadReports.{ReportedLoad, read_whole}
use Rattle.gcsh_top.proofs.load.run_load.Goals as goal

pub returns-in-Ok-clause-ran : goal.returns-in-Ok-clause-ran
returns-in-Ok-clause-ran g c =
    read_whole c.in-Ok.input.items c.in-Ok.ensures
    (subst (λ (input : List ℕ). ReportedLoad g.H.GcHeap.KIND c.args.form input (record { before = g.K.Sink.tells c.args.sink.now; after = g.K.Sink.tells c.report_load.new.sink }) c.report_load.new.store c.report_load.result) c.deref.ensures.value c.report_load.ensures.reported)
