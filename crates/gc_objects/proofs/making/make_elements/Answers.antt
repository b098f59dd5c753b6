use Rattle.gc_objects.proofs.LargeArrays.{refused_elements}
use Rattle.gc_objects.proofs.making.make_elements.Goals as goal

pub returns-in-Err-clause-makes : goal.returns-in-Err-clause-makes
returns-in-Err-clause-makes g c t a o holds is =
    refused_elements g.row.D.Denot g.H.GcHeap.KIND c.args.store.now t a (g.L.ResourceLimiter.limits c.args.limiter.now) holds c.args.ty c.args.elems.now c.requires c.in-Err.ensures o is
