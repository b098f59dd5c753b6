use Rattle.std.proofs.Common.{sym, ◌∙◌}
use Rattle.gc_memory.proofs.WordLemmas.{word64-is}
use Rattle.gc_drc.proofs.space.CountedSpace.long_word.Goals as goal

pub returns : goal.returns
returns c = c.read_u64.ensures ∙ sym (word64-is c.args.self.now.memory c.args.at)
