use Rattle.std.proofs.Common.{refl}
use Rattle.gcsh_top.specs.Reports.{reported_text, wanted_memory}
use Rattle.gcsh_top.proofs.ListLemmas.{tells_lists, within_most}
use Rattle.gcsh_top.proofs.lists.run_lists.Goals as goal

pub returns-in-Ok-clause-ran : goal.returns-in-Ok-clause-ran
returns-in-Ok-clause-ran g c =
    reported_text c.as_bytes.result.now
    (tells_lists g.H.GcHeap.KIND c.args.form c.args.inserts c.args.store.now c.fill_report.new.store _ c.new-limiter.result c.as_bytes.result.now c.requires.ready c.new-limiter.ensures c.as_bytes.ensures.value c.in-Ok.ensures.tells)
    tt c.write_report.ensures

pub returns-in-Err-clause-ran : goal.returns-in-Err-clause-ran
returns-in-Err-clause-ran g c = wanted_memory (within_most g.H.GcHeap.KIND c.args.form c.fill_report.new.store c.new-limiter.result c.new-limiter.ensures c.in-Err.ensures.wants) refl refl
