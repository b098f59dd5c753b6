use Rattle.std.proofs.Common.{ℕ, List, true, inl, inr, refl, sym, subst}
use Rattle.gc_paths.specs.Answers.{RefusesPaths}
use Rattle.gcsh_reports.specs.PathAnswers.{IsReportText}
use Rattle.gcsh_top.specs.Reports.{reported_text, wanted_memory}
use Rattle.gcsh_top.proofs.report.report_paths.Goals as goal

pub returns-in-Ok-clause-reported : goal.returns-in-Ok-clause-reported
returns-in-Ok-clause-reported g c =
    reported_text c.as_bytes.result.now (λ t place a there. inl (subst (λ (text : List ℕ). IsReportText t place text) (sym c.as_bytes.ensures.value) (c.in-Ok.ensures.answers t place a there))) c.path_report.ensures.leaves c.write_report.ensures

pub returns-in-Err-RootsFull-clause-reported : goal.returns-in-Err-RootsFull-clause-reported
returns-in-Err-RootsFull-clause-reported g c =
    reported_text _ (λ t place a there. inr (refl, subst (RefusesPaths true t) c.in-Err-RootsFull.field-0-is (c.in-Err-RootsFull.ensures.answers t place a there))) c.path_report.ensures.leaves c.write_report-in-Err-RootsFull.ensures

pub returns-in-Err-clause-reported : goal.returns-in-Err-clause-reported
returns-in-Err-clause-reported g c = wanted_memory c.path_report.ensures.leaves refl refl
