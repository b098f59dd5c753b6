use Rattle.gc_script.proofs.writes.write.Goals as goal

pub returns-clause-writes : goal.returns-clause-writes
returns-clause-writes g c t a holds = (c.in-Ok.ensures.writes t a holds).0
