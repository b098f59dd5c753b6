use Rattle.gc_objects.proofs.MakeLemmas.{wants_before}
use Rattle.gc_objects.proofs.making.make_of.Goals as goal

pub returns-in-Err-clause-makes : goal.returns-in-Err-clause-makes
returns-in-Err-clause-makes g c t a o holds is = wants_before g.H.GcHeap.KIND c.args.store.now.alloc_counter c.args.store.now t a (g.L.ResourceLimiter.limits c.args.limiter.now) o holds
