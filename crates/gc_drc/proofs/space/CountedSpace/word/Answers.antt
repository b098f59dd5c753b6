use Rattle.std.proofs.Common.{sym, ◌∙◌}
use Rattle.gc_memory.proofs.WordLemmas.{word-is}
use Rattle.gc_drc.proofs.space.CountedSpace.word.Goals as goal

pub returns : goal.returns
returns c = c.read_u32.ensures ∙ sym (word-is c.args.self.now.memory c.args.at)
