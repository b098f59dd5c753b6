use Rattle.std.proofs.Common.{ℕ, true, string_bytes, refl}
use Rattle.gc_paths.specs.Answers.{RefusesPaths}
use Rattle.gc_paths.specs.Progress.{Basis}
use Rattle.gcsh_reports.specs.PathAnswers.{IsReportText}
use Rattle.gcsh_reports.proofs.PathLemmas.{refused_as, told_in}
use Rattle.gcsh_reports.proofs.paths.report.Goals as goal

pub returns-in_err-found-clause-answers : goal.returns-in_err-found-clause-answers
returns-in_err-found-clause-answers g c t place a there =
    let b : Basis ℕ = record { scoped = true; table = t; place = place; account = a } in
    refused_as (λ text. IsReportText t place (string_bytes text)) (RefusesPaths true t) c.from_residual.result c.in_err-found.field-0.0 c.from_residual.ensures.1 (c.in_err-found.ensures.finds b refl there)

pub returns-in-Ok-clause-answers : goal.returns-in-Ok-clause-answers
returns-in-Ok-clause-answers g c t place a there =
    let b : Basis ℕ = record { scoped = true; table = t; place = place; account = a } in
    told_in g.H.GcHeap.KIND b _ c.in_ok-found.found (c.in_ok-found.ensures.finds b refl there) _ (c.in-Ok.ensures b (c.in_ok-found.ensures.finds b refl there)) refl
