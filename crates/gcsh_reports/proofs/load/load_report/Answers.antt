use Rattle.std.proofs.Common.{string_bytes}
use Rattle.gcsh_reports.specs.Loading.{collected, refused, unloaded}
use Rattle.gcsh_reports.proofs.LoadLemmas.{holds_loaded, if_ok, tells_loaded}
use Rattle.gcsh_reports.proofs.load.load_report.Goals as goal

pub returns-in-Ok-clause-tells : goal.returns-in-Ok-clause-tells
returns-in-Ok-clause-tells g c =
    if_ok c.held_text.result _ _ (λ text counts. tells_loaded g.H.GcHeap.KIND _ c.in-Ok.field-0 _ (string_bytes text) _ _ c.load_image.new.store c.gc.new.self c.in-Ok.ensures.loads c.gc.ensures.kept counts) c.held_text.ensures

pub returns-in-Err-clause-tells : goal.returns-in-Err-clause-tells
returns-in-Err-clause-tells g c = if_ok c.refusal_text.result _ _ (λ text line. refused c.in-Err.fault c.in-Err.ensures.loads line) c.refusal_text.ensures

pub returns-in-Ok-clause-leaves : goal.returns-in-Ok-clause-leaves
returns-in-Ok-clause-leaves g c = collected (holds_loaded g.H.GcHeap.KIND c.in-Ok.field-0 _ c.load_image.new.store c.gc.new.self c.in-Ok.ensures.loads c.gc.ensures.kept)

pub returns-in-Err-clause-leaves : goal.returns-in-Err-clause-leaves
returns-in-Err-clause-leaves g c = unloaded c.in-Err.fault c.in-Err.ensures.loads
