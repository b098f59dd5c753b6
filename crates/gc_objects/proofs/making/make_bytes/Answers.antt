use Rattle.gc_objects.proofs.LargeArrays.{refused_bytes}
use Rattle.gc_objects.proofs.making.make_bytes.Goals as goal

pub returns-in-Err-clause-makes : goal.returns-in-Err-clause-makes
returns-in-Err-clause-makes g c t a holds =
    refused_bytes g.H.GcHeap.KIND c.args.store.now t a (g.L.ResourceLimiter.limits c.args.limiter.now) holds c.args.ty c.args.elems.now c.requires c.in-Err.ensures
