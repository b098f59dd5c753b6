use Rattle.gc_model.specs.Policy.{policy_state}
use Rattle.gc_objects.proofs.Handing.{handed_on}
use Rattle.gc_objects.proofs.making.make.Goals as goal

pub returns-clause-makes : goal.returns-clause-makes
returns-clause-makes g c t a o holds is =
    handed_on g.H.GcHeap.KIND c.args.store.now.alloc_counter o (policy_state t a (g.L.ResourceLimiter.limits c.args.limiter.now)) (g.L.ResourceLimiter.limits c.place.new.limiter) c.place.new.self c.asked.result c.place.result c.asked.ensures
    (c.place.ensures.places t a o holds is)
