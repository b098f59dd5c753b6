use Rattle.std.proofs.Common.{sym, ap, ◌∙◌}
use Rattle.gc_image.proofs.CutLemmas.{first_line, last_line, lines_left}
use Rattle.gc_image.proofs.lines.Lines.next.Goals as goal

pub returns-in-Some : goal.returns-in-Some
returns-in-Some c = sym c.self.view_is ∙ ap lines_left c.in_ok-rest.was ∙ first_line c.in_ok-rest.rest.now c.in-Some.end (sym c.feed_place.ensures ∙ c.in-Some.is)

pub returns-in-None : goal.returns-in-None
returns-in-None c = sym c.self.view_is ∙ ap lines_left c.in_ok-rest.was ∙ last_line c.in_ok-rest.rest.now (sym c.feed_place.ensures ∙ c.in-None.is)
