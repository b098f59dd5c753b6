use Rattle.std.proofs.Common.{sym, ◌∙◌}
use Rattle.gcsh_top.proofs.FormAnswers.{usage_of}
use Rattle.gcsh_top.proofs.top.gcsh_top.Goals as goal

pub returns-clause-answers : goal.returns-clause-answers
returns-clause-answers g c = (c.run_words.result, c.code.ensures, c.run_words.ensures.answers)

pub returns-clause-untouched : goal.returns-clause-untouched
returns-clause-untouched g c is = c.run_words.ensures.untouched (usage_of c.run_words.result (sym c.code.ensures ∙ is))

pub returns-clause-unread : goal.returns-clause-unread
returns-clause-unread g c = c.run_words.ensures.unread
