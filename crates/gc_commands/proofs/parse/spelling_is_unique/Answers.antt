use Rattle.gc_commands.proofs.UniqueLemmas.{one_spelling_of_one}
use Rattle.gc_commands.proofs.parse.spelling_is_unique.Goals as goal

pub returns : goal.returns
returns c = one_spelling_of_one
