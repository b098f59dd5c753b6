use Rattle.std.proofs.Common.{refl}
use Rattle.gcsh_top.specs.Answers.{behind, within}
use Rattle.gcsh_top.proofs.FormAnswers.{silently, not_begun}
use Rattle.gcsh_top.proofs.report.run_save.Goals as goal

pub returns-in-Done-clause-ran : goal.returns-in-Done-clause-ran
returns-in-Done-clause-ran g c =
    behind c.run_form.new.store (silently _ c.args.form _ _ _ _ c.in-Done.ensures.ran) c.report_image.ensures.reported

pub returns-in_default-clause-ran : goal.returns-in_default-clause-ran
returns-in_default-clause-ran g c =
    within c.run_form.new.sink (not_begun _ c.args.form _ c.new-silence.result c.run_form.new.sink _ c.run_form.result c.new-silence.ensures c.run_form.ensures.ran) c.in_default.not-Done refl
