use Rattle.gc_drc.proofs.ReleaseLemmas.{freed_at}
use Rattle.gc_drc.proofs.space.CountedSpace.free_unlisted.Goals as goal

pub returns-clause-memory : goal.returns-clause-memory
returns-clause-memory c = c.release.ensures.memory

pub returns-clause-freed : goal.returns-clause-freed
returns-clause-freed c o v at i a b d = freed_at o v c.args.self.now c.release.new.self c.args.place c.release.ensures at i a b d
