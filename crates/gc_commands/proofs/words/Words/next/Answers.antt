use Rattle.std.proofs.Common.{sym, ap, ◌∙◌}
use Rattle.gc_commands.proofs.WordLemmas.{words_left}
use Rattle.gc_commands.proofs.words.Words.next.Goals as goal

pub returns : goal.returns
returns c = sym c.self.view_is ∙ ap words_left c.in_ok-self.was ∙ c.cut_word.ensures
