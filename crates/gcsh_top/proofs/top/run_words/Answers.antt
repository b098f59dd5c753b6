use Rattle.std.proofs.Common.{ℕ, refl}
use Rattle.gc_model.specs.Stores.{StoreView}
use Rattle.gcsh_top.specs.declared.words.Collector.TheVariants.{Copying, Counting, Null}
use Rattle.gcsh_top.specs.Chosen.{HasSameId}
use Rattle.gcsh_top.proofs.FormAnswers.{ran_over, unread_alone}
use Rattle.gcsh_top.proofs.top.run_words.Goals as goal

-- a store that is as it was has its id
same_id : (s : StoreView ℕ) → HasSameId s s
same_id s = record { engine = refl; number = refl }

pub returns-in-Copying-clause-answers : goal.returns-in-Copying-clause-answers
returns-in-Copying-clause-answers g c =
    ran_over Copying _ c.in-Some.form _ _ _ _ c.run_on.result c.in-Some.ensures c.in-Copying.is c.run_on.ensures.ran (refl, refl)
    (record { copying = c.run_on.ensures.same; counting = same_id _; null = same_id _ })

pub returns-in-Counting-clause-answers : goal.returns-in-Counting-clause-answers
returns-in-Counting-clause-answers g c =
    ran_over Counting _ c.in-Some.form _ _ _ _ c.run_on-in-Counting.result c.in-Some.ensures c.in-Counting.is c.run_on-in-Counting.ensures.ran (refl, refl)
    (record { copying = same_id _; counting = c.run_on-in-Counting.ensures.same; null = same_id _ })

pub returns-in-Null-clause-answers : goal.returns-in-Null-clause-answers
returns-in-Null-clause-answers g c =
    ran_over Null _ c.in-Some.form _ _ _ _ c.run_on-in-Null.result c.in-Some.ensures c.in-Null.is c.run_on-in-Null.ensures.ran (refl, refl)
    (record { copying = same_id _; counting = same_id _; null = c.run_on-in-Null.ensures.same })

pub returns-in-Copying-clause-unread : goal.returns-in-Copying-clause-unread
returns-in-Copying-clause-unread g c form is_form nothing = c.run_on.ensures.unread (unread_alone _ form c.in-Some.form is_form c.in-Some.ensures nothing)

pub returns-in-Counting-clause-unread : goal.returns-in-Counting-clause-unread
returns-in-Counting-clause-unread g c form is_form nothing = c.run_on-in-Counting.ensures.unread (unread_alone _ form c.in-Some.form is_form c.in-Some.ensures nothing)

pub returns-in-Null-clause-unread : goal.returns-in-Null-clause-unread
returns-in-Null-clause-unread g c form is_form nothing = c.run_on-in-Null.ensures.unread (unread_alone _ form c.in-Some.form is_form c.in-Some.ensures nothing)
