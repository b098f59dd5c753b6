use Rattle.std.proofs.Common.{sym}
use Rattle.gc_values.proofs.OwnedWords.{found_word, found_unheld, found_none}
use Rattle.gc_values.proofs.word.owned_word.Goals as goal

pub returns-then-entry-eq0 : goal.returns-then-entry-eq0
returns-then-entry-eq0 c = sym (found_unheld c.args.entries.now c.args.number c.requires.rising c.find_owned.result c.find_owned.ensures c.in-Some.index c.in-Some.is c.if-entry-eq0.true)

pub returns-else-entry-eq0 : goal.returns-else-entry-eq0
returns-else-entry-eq0 c = sym (found_word c.args.entries.now c.args.number c.requires.rising c.find_owned.result c.find_owned.ensures c.in-Some.index c.in-Some.is c.if-entry-eq0.false)

pub returns-in-None : goal.returns-in-None
returns-in-None c = sym (found_none c.args.entries.now c.args.number c.requires.rising c.find_owned.result c.find_owned.ensures c.in-None.is)
