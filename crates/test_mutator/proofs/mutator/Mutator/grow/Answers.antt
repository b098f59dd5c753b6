use Rattle.std.proofs.Common.{◌*◌}
use Rattle.gc_heap.specs.Collection.{has_host}
use Rattle.test_mutator.proofs.GrowLemmas.{grew}
use Rattle.test_mutator.proofs.mutator.Mutator.grow.Goals as goal

pub invariant_of-self : goal.invariant_of-self
invariant_of-self g c = record {
  sound = c.grow_heap.ensures.sound;
  can = grew g.H.GcHeap.KIND c.self.inside.types.declarations (g.H.GcHeap.seen c.self.inside.heap) (g.H.GcHeap.seen c.grow_heap.new.heap) (65536 * c.args.pages) c.self.inside.roots.roots (has_host c.self.inside.hosts.entries) c.grow_heap.result
      c.grow_heap.ensures.ok c.grow_heap.ensures.err c.self.invariant.can;
}
