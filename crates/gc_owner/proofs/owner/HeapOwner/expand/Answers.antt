use Rattle.gc_owner.specs.Growing.{state_of}
use Rattle.gc_owner.proofs.GrowLemmas.{made_attached, made_expands, not_made_expands}
use Rattle.gc_owner.proofs.owner.HeapOwner.expand.Goals as goal

pub grow_by-requires-clause-attached : goal.grow_by-requires-clause-attached
grow_by-requires-clause-attached g c =
    made_attached g.H.GcHeap.KIND c.args.first_pages c.args.self.now.seen.heap c.make_heap.new.self.seen.heap (g.L.ResourceLimiter.limits c.args.limiter.now) (g.L.ResourceLimiter.limits c.make_heap.new.limiter) c.in-Ok.ensures.made

pub returns-in-Ok : goal.returns-in-Ok
returns-in-Ok g c =
    made_expands g.H.GcHeap.KIND c.args.first_pages c.args.bytes (state_of c.args.self.now.seen (g.L.ResourceLimiter.limits c.args.limiter.now)) c.make_heap.new.self.seen (g.L.ResourceLimiter.limits c.make_heap.new.limiter) c.make_heap.ensures.rest
    (state_of c.grow_by.new.self.seen (g.L.ResourceLimiter.limits c.grow_by.new.limiter)) c.grow_by.result c.in-Ok.ensures.made c.grow_by.ensures

pub returns-in-Err : goal.returns-in-Err
returns-in-Err g c =
    not_made_expands g.H.GcHeap.KIND c.args.first_pages c.args.bytes (state_of c.args.self.now.seen (g.L.ResourceLimiter.limits c.args.limiter.now)) c.make_heap.new.self.seen (g.L.ResourceLimiter.limits c.make_heap.new.limiter) c.make_heap.ensures.rest
    c.in-Err.fault c.in-Err.ensures.made
