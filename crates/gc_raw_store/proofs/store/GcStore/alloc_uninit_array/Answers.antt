use Rattle.gc_heap.specs.Heap.{array_size, new_array}
use Rattle.gc_raw_store.proofs.StoreLemmas.{array_other, stored_made}
use Rattle.gc_raw_store.proofs.store.GcStore.alloc_uninit_array.Goals as goal

pub invariant_of-self : goal.invariant_of-self
invariant_of-self g c = stored_made {D = g.row.D.Denot} g.H.GcHeap.KIND (g.H.GcHeap.seen c.self.inside.heap) (g.H.GcHeap.seen c.alloc_uninit_array.new.self) c.self.inside.hosts.entries c.self.invariant c.alloc_uninit_array.ensures.sound
    (new_array g.H.GcHeap.KIND c.args.ty c.args.length c.args.layout.now) (array_size c.args.layout.now c.args.length) c.alloc_uninit_array.result array_other c.alloc_uninit_array.ensures.allocated
