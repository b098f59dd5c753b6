use Rattle.std.proofs.Common.{sym, subst}
use Rattle.gc_model.specs.Stores.{StoreView}
use Rattle.gc_store.specs.OwnedWords.{HoldsThere}
use Rattle.gc_store.proofs.OwningRoots.{trimmed_there, is_trimmed, sound_trimmed}
use Rattle.gc_store.specs.Stores.{tables_of}
use Rattle.gc_store.proofs.store.Store.trim_owned.Goals as goal

pub invariant_of-self : goal.invariant_of-self
invariant_of-self g c =
    sound_trimmed g.H.GcHeap.KIND c.self.inside.id c.self.inside.config (tables_of c.self.inside.interned c.self.inside.asked) c.self.inside.tries c.self.inside.owner.seen c.trim.new.self.seen c.trim.ensures c.self.inside.slot_counts.items c.self.invariant

pub returns-clause-holds : goal.returns-clause-holds
returns-clause-holds g c = λ t place a there.
    trimmed_there g.H.GcHeap.KIND c.self.inside.id c.self.inside.config (tables_of c.self.inside.interned c.self.inside.asked) c.self.inside.tries c.self.inside.owner.seen c.trim.new.self.seen c.trim.ensures t place a
    (subst (λ (s : StoreView g.row.D.Denot). HoldsThere g.H.GcHeap.KIND s t place a) (sym c.self.view_is) there)

pub returns-clause-trimmed : goal.returns-clause-trimmed
returns-clause-trimmed g c = is_trimmed g.H.GcHeap.KIND c.self.inside.id c.self.inside.config (tables_of c.self.inside.interned c.self.inside.asked) c.self.inside.tries c.self.inside.owner.seen c.trim.new.self.seen c.trim.ensures
