use Rattle.gc_commands.proofs.TypeLemmas.{no_named}
use Rattle.gc_commands.proofs.types.named_of.Goals as goal

pub returns-in_err-behind : goal.returns-in_err-behind
returns-in_err-behind c = rw c.from_residual.ensures (no_named c.args.word.now c.in_err-behind.ensures)
