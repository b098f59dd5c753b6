use Rattle.std.proofs.Common.{sym}
use Rattle.std.proofs.lemmas.List.{take_rest}
use Rattle.gc_commands.proofs.WordLemmas.{first_word, no_space_found}
use Rattle.gc_commands.proofs.words.cut_word.Goals as goal

pub returns-in-Some : goal.returns-in-Some
returns-in-Some c = rw take_rest (first_word c.args.line.now c.in-Some.at (sym c.in-Some.ensures))

pub returns-in-None : goal.returns-in-None
returns-in-None c = no_space_found c.args.line.now (sym c.in-None.ensures)
