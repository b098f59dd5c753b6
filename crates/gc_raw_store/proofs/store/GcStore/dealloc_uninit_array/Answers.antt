use Rattle.gc_raw_store.proofs.StoreLemmas.{stored_given_array}
use Rattle.gc_raw_store.proofs.store.GcStore.dealloc_uninit_array.Goals as goal

pub invariant_of-self : goal.invariant_of-self
invariant_of-self g c = stored_given_array {D = g.row.D.Denot} g.H.GcHeap.KIND (g.H.GcHeap.seen c.self.inside.heap) (g.H.GcHeap.seen c.dealloc_uninit_array.new.self) c.self.inside.hosts.entries c.self.invariant c.dealloc_uninit_array.ensures.sound
    c.args.self.now c.args.array c.self.view_is c.requires.held c.dealloc_uninit_array.ensures.seen
