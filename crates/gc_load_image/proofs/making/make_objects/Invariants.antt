use Rattle.gc_store.specs.Stores.{IsSameStore}
use Rattle.gc_load_image.proofs.MakingLoop.{MadeFront}
use Rattle.gc_load_image.proofs.making.make_objects.Given as goal

abbrev pub invariant-loop-line : goal.invariant-loop-line
invariant-loop-line g l = record {
  front : MadeFront g.H.GcHeap.KIND l.objects (g.L.ResourceLimiter.limits l.fn.limiter) (g.L.ResourceLimiter.limits l.limiter) l.fn.store l.handles.items l.line-index l.store;
  same : IsSameStore l.fn.store l.store;
}
