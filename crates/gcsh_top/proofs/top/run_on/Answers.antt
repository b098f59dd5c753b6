use Rattle.std.proofs.Common.{refl}
use Rattle.gcsh_top.specs.declared.words.Task.TheVariants.{Script, Churn, Paths, Save, Load, Lists}
use Rattle.gcsh_top.proofs.FormAnswers.{fits_inserts, fits_rounds, ran_task, reads}
use Rattle.gcsh_top.proofs.top.run_on.Goals as goal

pub run_churn-requires-clause-most : goal.run_churn-requires-clause-most
run_churn-requires-clause-most g c = fits_rounds c.args.form.task c.in-Churn.rounds c.in-Churn.is c.requires.fits

pub run_lists-requires-clause-most : goal.run_lists-requires-clause-most
run_lists-requires-clause-most g c = fits_inserts c.args.form.task c.in-Lists.inserts c.in-Lists.is c.requires.fits

pub returns-in-Script-clause-ran : goal.returns-in-Script-clause-ran
returns-in-Script-clause-ran g c = ran_task c.args.form.task Script _ c.args.form _ _ _ c.run_form.result c.in-Script.is c.run_form.ensures.ran

pub returns-in-Churn-clause-ran : goal.returns-in-Churn-clause-ran
returns-in-Churn-clause-ran g c = ran_task c.args.form.task (Churn c.in-Churn.rounds) _ c.args.form _ _ _ c.run_churn.result c.in-Churn.is (refl, c.run_churn.ensures.ran)

pub returns-in-Paths-clause-ran : goal.returns-in-Paths-clause-ran
returns-in-Paths-clause-ran g c = ran_task c.args.form.task Paths _ c.args.form _ _ _ c.run_paths.result c.in-Paths.is c.run_paths.ensures.ran

pub returns-in-Save-clause-ran : goal.returns-in-Save-clause-ran
returns-in-Save-clause-ran g c = ran_task c.args.form.task Save _ c.args.form _ _ _ c.run_save.result c.in-Save.is c.run_save.ensures.ran

pub returns-in-Load-clause-ran : goal.returns-in-Load-clause-ran
returns-in-Load-clause-ran g c = ran_task c.args.form.task Load _ c.args.form _ _ _ c.run_load.result c.in-Load.is c.run_load.ensures.ran

pub returns-in-Lists-clause-ran : goal.returns-in-Lists-clause-ran
returns-in-Lists-clause-ran g c = ran_task c.args.form.task (Lists c.in-Lists.inserts) _ c.args.form _ _ _ c.run_lists.result c.in-Lists.is (refl, c.run_lists.ensures.ran)

pub returns-in-Script-clause-unread : goal.returns-in-Script-clause-unread
returns-in-Script-clause-unread g c nothing = absurd (reads c.args.form.task Script c.in-Script.is (λ none. none) nothing)

pub returns-in-Churn-clause-unread : goal.returns-in-Churn-clause-unread
returns-in-Churn-clause-unread g c nothing = refl

pub returns-in-Paths-clause-unread : goal.returns-in-Paths-clause-unread
returns-in-Paths-clause-unread g c nothing = absurd (reads c.args.form.task Paths c.in-Paths.is (λ none. none) nothing)

pub returns-in-Save-clause-unread : goal.returns-in-Save-clause-unread
returns-in-Save-clause-unread g c nothing = absurd (reads c.args.form.task Save c.in-Save.is (λ none. none) nothing)

pub returns-in-Load-clause-unread : goal.returns-in-Load-clause-unread
returns-in-Load-clause-unread g c nothing = absurd (reads c.args.form.task Load c.in-Load.is (λ none. none) nothing)

pub returns-in-Lists-clause-unread : goal.returns-in-Lists-clause-unread
returns-in-Lists-clause-unread g c nothing = refl
