use Rattle.gc_raw_store.proofs.StoreLemmas.{stored_new}
use Rattle.gc_raw_store.proofs.store.GcStore.new.Goals as goal

pub invariant_of-result : goal.invariant_of-result
invariant_of-result g c = stored_new {D = g.row.D.Denot} (g.H.GcHeap.seen c.args.heap) c.new.result.entries c.requires.sound c.requires.attached c.requires.empty c.new.ensures
