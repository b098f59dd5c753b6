use Rattle.gc_raw_store.proofs.StoreLemmas.{host_told}
use Rattle.gc_raw_store.proofs.store.GcStore.host_id.Goals as goal

pub returns-clause-held : goal.returns-clause-held
returns-clause-held g c = host_told {D = g.row.D.Denot} (record { heap = g.H.GcHeap.seen c.self.inside.heap; hosts = c.self.inside.hosts.entries }) c.args.self.now c.args.r.now
    c.externref_host_data.result c.self.view_is c.self.invariant.paired c.externref_host_data.ensures.held
