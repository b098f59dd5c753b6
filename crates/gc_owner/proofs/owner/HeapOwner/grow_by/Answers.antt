use Rattle.gc_owner.proofs.GrowLemmas.{grows_by}
use Rattle.gc_owner.specs.Growing.{state_of}
use Rattle.gc_owner.proofs.owner.HeapOwner.grow_by.Goals as goal

pub returns : goal.returns
returns g c =
    grows_by g.H.GcHeap.KIND c.args.bytes (state_of c.args.self.now.seen (g.L.ResourceLimiter.limits c.args.limiter.now)) c.ready_to_grow.new.self.seen c.add_pages.new.self.seen (g.L.ResourceLimiter.limits c.args.limiter.now) (g.L.ResourceLimiter.limits c.add_pages.new.limiter)
    c.add_pages.result (c.ready_to_grow.ensures.readied (g.L.ResourceLimiter.limits c.args.limiter.now)) c.add_pages.ensures.rest c.add_pages.ensures.is_heap c.add_pages.ensures.grown
