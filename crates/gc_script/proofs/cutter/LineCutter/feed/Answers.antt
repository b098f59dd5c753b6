use Rattle.std.proofs.Common.{sym, ◌∙◌}
use Rattle.gc_script.proofs.CutLemmas.{ends_at, goes_on_all}
use Rattle.gc_script.proofs.cutter.LineCutter.feed.Goals as goal

pub returns-in_ok-keep-in-Some-clause-fed : goal.returns-in_ok-keep-in-Some-clause-fed
returns-in_ok-keep-in-Some-clause-fed c = ends_at c.args.piece.now c.in-Some.at _ _ (sym c.first_line_feed.ensures ∙ c.in-Some.is) c.in_ok-keep-in-Some.ensures.kept

pub returns-in_ok-keep-in-None-clause-fed : goal.returns-in_ok-keep-in-None-clause-fed
returns-in_ok-keep-in-None-clause-fed c = goes_on_all c.args.piece.now _ _ (sym c.first_line_feed.ensures ∙ c.in-None.is) c.in_ok-keep-in-None.ensures.kept
