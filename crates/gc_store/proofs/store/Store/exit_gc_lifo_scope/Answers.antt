use Rattle.std.proofs.Common.{sym, subst}
use Rattle.gc_model.specs.Stores.{StoreView}
use Rattle.gc_model.specs.Accounts.{HoldsAccount}
use Rattle.gc_store.specs.OwnedWords.{HoldsThere}
use Rattle.gc_store.proofs.Leaving.{holds_left, there_left, sound_left}
use Rattle.gc_store.specs.Stores.{tables_of}
use Rattle.gc_store.proofs.store.Store.exit_gc_lifo_scope.Goals as goal

pub invariant_of-self : goal.invariant_of-self
invariant_of-self g c =
    sound_left g.H.GcHeap.KIND c.self.inside.id c.self.inside.config (tables_of c.self.inside.interned c.self.inside.asked) c.self.inside.tries c.self.inside.owner.seen c.leave_scope.new.self.seen c.args.scope
    c.leave_scope.ensures c.self.inside.slot_counts.items c.self.invariant

pub returns-clause-leaves : goal.returns-clause-leaves
returns-clause-leaves g c t a holds =
    holds_left g.H.GcHeap.KIND c.self.inside.id c.self.inside.config (tables_of c.self.inside.interned c.self.inside.asked) c.self.inside.tries c.self.inside.owner.seen c.leave_scope.new.self.seen c.args.scope
    c.leave_scope.ensures t a (subst (λ (s : StoreView g.row.D.Denot). HoldsAccount g.H.GcHeap.KIND s t a) (sym c.self.view_is) holds)

pub returns-clause-there : goal.returns-clause-there
returns-clause-there g c t place a there =
    there_left g.H.GcHeap.KIND c.self.inside.id c.self.inside.config (tables_of c.self.inside.interned c.self.inside.asked) c.self.inside.tries c.self.inside.owner.seen c.leave_scope.new.self.seen c.args.scope
    c.leave_scope.ensures t place a (subst (λ (s : StoreView g.row.D.Denot). HoldsThere g.H.GcHeap.KIND s t place a) (sym c.self.view_is) there)
