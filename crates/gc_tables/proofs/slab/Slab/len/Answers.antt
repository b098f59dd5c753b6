use Rattle.gc_tables.proofs.LinkLemmas.{ids_below}
use Rattle.gc_tables.proofs.slab.Slab.len.Goals as goal

pub returns-clause-ids : goal.returns-clause-ids
returns-clause-ids g c id present =
    ids_below _ _ _ id c.self.invariant (rw (← c.self.view_is) at present)
