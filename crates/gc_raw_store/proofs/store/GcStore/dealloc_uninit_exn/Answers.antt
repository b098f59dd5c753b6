use Rattle.gc_raw_store.proofs.StoreLemmas.{stored_given_struct}
use Rattle.gc_raw_store.proofs.store.GcStore.dealloc_uninit_exn.Goals as goal

pub invariant_of-self : goal.invariant_of-self
invariant_of-self g c = stored_given_struct {D = g.row.D.Denot} g.H.GcHeap.KIND (g.H.GcHeap.seen c.self.inside.heap) (g.H.GcHeap.seen c.dealloc_uninit_struct_or_exn.new.self) c.self.inside.hosts.entries c.self.invariant c.dealloc_uninit_struct_or_exn.ensures.sound
    c.args.self.now c.args.r c.from.result c.self.view_is c.from.ensures c.requires.held c.dealloc_uninit_struct_or_exn.ensures.seen
