use Rattle.std.proofs.Common.{subst, sym}
use Rattle.gc_types.specs.Declarations.{exn_type}
use Rattle.gc_model.specs.Stores.{StoreView}
use Rattle.gc_model.specs.Accounts.{HoldsAccount}
use Rattle.gc_store.proofs.Declaring.{declared_step, sound_declared}
use Rattle.gc_store.specs.Stores.{tables_of}
use Rattle.gc_store.proofs.store.Store.declare_exn.Goals as goal

pub invariant_of-self : goal.invariant_of-self
invariant_of-self g c =
    sound_declared g.H.GcHeap.KIND c.self.inside.id c.self.inside.config (tables_of c.self.inside.interned c.self.inside.asked) c.self.inside.tries (exn_type c.args.params.now) c.self.inside.owner.seen c.declare_exn.new.self.seen c.declare_exn.result
    c.declare_exn.ensures c.self.inside.slot_counts.items c.self.invariant

pub returns-clause-step : goal.returns-clause-step
returns-clause-step g c t a holds =
    declared_step g.H.GcHeap.KIND c.self.inside.id c.self.inside.config (tables_of c.self.inside.interned c.self.inside.asked) c.self.inside.tries (exn_type c.args.params.now) c.self.inside.owner.seen c.declare_exn.new.self.seen c.declare_exn.result
    c.declare_exn.ensures c.self.inside.slot_counts.items c.self.invariant t a (subst (λ (v : StoreView g.row.D.Denot). HoldsAccount g.H.GcHeap.KIND v t a) (sym c.self.view_is) holds)
