use Rattle.std.proofs.Common.{sym, subst, List, ℕ}
use Rattle.gcsh_reports.specs.Saving.{TellsSave}
use Rattle.gcsh_top.specs.Reports.{reported_text}
use Rattle.gcsh_top.proofs.report.report_image.Goals as goal

pub returns-in-Ok-clause-reported : goal.returns-in-Ok-clause-reported
returns-in-Ok-clause-reported g c =
    reported_text c.deref.result.now (λ t a holds. subst (λ (text : List ℕ). TellsSave t text) (sym c.deref.ensures.value) (c.in-Ok.ensures.tells t a holds)) c.save_report.ensures.leaves c.write_report.ensures
