use Rattle.std.proofs.Common.{◌≡◌, Some, sym, ap, ◌∙◌}
use Rattle.std.specs.Option.{option_copied_mut}
use Rattle.std.specs.FinMap.{get}
use Rattle.gc_store.proofs.HostChanges.{sound_host_set}
use Rattle.gc_store.specs.Stores.{tables_of}
use Rattle.gc_store.proofs.store.Store.host_mut.Goals as goal

pub invariant_of-self-lent : goal.invariant_of-self-lent
invariant_of-self-lent g c = λ w.
    let there : get c.self.inside.owner.seen.hosts c.args.id ≡ Some c.in-Some.value.now = sym c.host_mut.ensures.value ∙ ap option_copied_mut c.in-Some.is in
    sound_host_set g.H.GcHeap.KIND c.self.inside.slot_counts.items c.self.inside.id c.self.inside.config (tables_of c.self.inside.interned c.self.inside.asked) c.self.inside.owner.seen c.self.inside.tries c.args.id c.in-Some.value.now w there c.self.invariant
