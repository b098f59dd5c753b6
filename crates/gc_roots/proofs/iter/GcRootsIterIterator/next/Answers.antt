use Rattle.gc_roots.proofs.ColumnLemmas.{roots_of-none}
use Rattle.gc_roots.proofs.iter.GcRootsIterIterator.next.Goals as goal

pub returns-in-None-next-clause-steps : goal.returns-in-None-next-clause-steps
returns-in-None-next-clause-steps c =
    (roots_of-none _ _ c.in-None-next.ensures.steps.0, roots_of-none _ _ c.in-None-next.ensures.steps.1)
