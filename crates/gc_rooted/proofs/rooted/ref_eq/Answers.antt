use Rattle.gc_rooted.proofs.rooted.ref_eq.Goals as goal

pub returns-clause-live : goal.returns-clause-live
returns-clause-live g c = rw (← c.root_index.ensures) (rw (← c.root_index-2.ensures) c.index_eq.ensures.live)

pub returns-clause-gone : goal.returns-clause-gone
returns-clause-gone g c = rw (← c.root_index.ensures) (rw (← c.root_index-2.ensures) c.index_eq.ensures.gone)
