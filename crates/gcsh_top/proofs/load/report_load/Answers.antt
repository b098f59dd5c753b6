use Rattle.std.proofs.Common.{refl}
use Rattle.gcsh_top.specs.Reports.{reported_text, wanted_memory}
use Rattle.gcsh_top.proofs.LoadLemmas.{leaves_input, tells_input}
use Rattle.gcsh_top.proofs.load.report_load.Goals as goal

pub returns-in-Ok-clause-reported : goal.returns-in-Ok-clause-reported
returns-in-Ok-clause-reported g c =
    reported_text c.as_bytes.result.now
    (tells_input g.H.GcHeap.KIND c.args.form c.args.input.now c.args.store.now c.load_report.new.store _ c.new-limiter.result c.load_report.new.limiter c.as_bytes.result.now c.requires c.new-limiter.ensures c.as_bytes.ensures.value c.in-Ok.ensures.tells)
    tt c.write_report.ensures

pub returns-in-Err-clause-reported : goal.returns-in-Err-clause-reported
returns-in-Err-clause-reported g c =
    wanted_memory
    (leaves_input g.H.GcHeap.KIND c.args.form c.args.input.now c.args.store.now c.load_report.new.store c.new-limiter.result c.load_report.new.limiter c.requires c.new-limiter.ensures c.load_report.ensures.leaves)
    refl refl
