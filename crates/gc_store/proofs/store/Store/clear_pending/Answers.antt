use Rattle.std.proofs.Common.{None}
use Rattle.gc_store.proofs.PendingLemmas.{none_thrown, sound_pending}
use Rattle.gc_store.specs.Stores.{tables_of}
use Rattle.gc_store.proofs.store.Store.clear_pending.Goals as goal

pub invariant_of-self : goal.invariant_of-self
invariant_of-self g c =
    sound_pending g.H.GcHeap.KIND c.self.inside.id c.self.inside.config (tables_of c.self.inside.interned c.self.inside.asked) c.self.inside.tries c.self.inside.owner.seen c.set_pending.new.self.seen 0 c.set_pending.ensures
    c.self.inside.slot_counts.items None c.self.invariant (none_thrown c.self.invariant.table.objects c.self.invariant.holds.place)
