use Rattle.gc_rooted.proofs.Marked.{finds_none}
use Rattle.gc_rooted.proofs.rooted.Rooted.from_index.Goals as goal

pub returns-in_err-object-clause-live : goal.returns-in_err-object-clause-live
returns-in_err-object-clause-live g c t r holds named = absurd (c.in_err-object.ensures.live t r holds named)

pub returns-else-is_of_mark-clause-live : goal.returns-else-is_of_mark-clause-live
returns-else-is_of_mark-clause-live g c t r holds named both =
    finds_none g.T.GcRef.CLASS c.CLASS.result g.T.GcRef.KIND c.KIND.result c.CLASS.ensures c.KIND.ensures t r c.in_ok-object.object c.is_of_mark.result c.is_of_mark.ensures
    (c.in_ok-object.ensures.live t r holds named) c.if-is_of_mark.false both.1
