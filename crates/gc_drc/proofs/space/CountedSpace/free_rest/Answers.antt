use Rattle.gc_drc.proofs.UnreachedMemory.{none_fresh}
use Rattle.gc_drc.proofs.space.CountedSpace.free_rest.Goals as goal

pub returns-then-fresh-eq0-clause-freed : goal.returns-then-fresh-eq0-clause-freed
returns-then-fresh-eq0-clause-freed g c o before places typed garbage =
    none_fresh _ o before c.args.hosts.now.entries places c.args.self.now c.args.fresh c.requires.fresh c.if-fresh-eq0.true garbage
