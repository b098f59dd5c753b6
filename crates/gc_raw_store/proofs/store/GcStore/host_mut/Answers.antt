use Rattle.gc_raw_store.proofs.StoreLemmas.{stored_again}
use Rattle.gc_raw_store.proofs.store.GcStore.host_mut.Goals as goal

pub invariant_of-self-lent : goal.invariant_of-self-lent
invariant_of-self-lent g c = λ w. stored_again {D = g.row.D.Denot} (g.H.GcHeap.seen c.self.inside.heap) c.self.inside.hosts.entries c.args.id c.in-Ok.value.now w c.in-Ok.ensures.ok c.self.invariant
