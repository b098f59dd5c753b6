use Rattle.std.proofs.Common.{sym, ◌∙◌}
use Rattle.test_leaves.proofs.CountLemmas.{count_found, count_missing}
use Rattle.test_leaves.proofs.tracked.count_before.Goals as goal

pub returns-in-Some : goal.returns-in-Some
returns-in-Some c = count_found c.args.place c.in-Some.index c.args.held.now (sym c.first_from.ensures ∙ c.in-Some.is)

pub returns-in-None : goal.returns-in-None
returns-in-None c = count_missing c.args.place c.args.held.now (sym c.first_from.ensures ∙ c.in-None.is)
