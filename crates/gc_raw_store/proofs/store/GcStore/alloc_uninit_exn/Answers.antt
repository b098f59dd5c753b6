use Rattle.gc_heap.specs.Heap.{new_struct}
use Rattle.gc_raw_store.proofs.StoreLemmas.{stored_made, struct_other}
use Rattle.gc_raw_store.proofs.store.GcStore.alloc_uninit_exn.Goals as goal

pub invariant_of-self : goal.invariant_of-self
invariant_of-self g c = stored_made {D = g.row.D.Denot} g.H.GcHeap.KIND (g.H.GcHeap.seen c.self.inside.heap) (g.H.GcHeap.seen c.alloc_uninit_struct_or_exn.new.self) c.self.inside.hosts.entries c.self.invariant c.alloc_uninit_struct_or_exn.ensures.sound
    (new_struct g.H.GcHeap.KIND c.args.ty c.args.layout.now) c.args.layout.now.size c.alloc_uninit_struct_or_exn.result (struct_other c.args.layout.now.is_exception) c.alloc_uninit_struct_or_exn.ensures.allocated
